-- Terms are spelled by their signs.
use Rattle.std.proofs.Common.{◌≡◌, ℕ, zero, suc, ◌≤◌, Bool, true, false, List, [], ◌∷◌, ◌++◌, None, refl, ap, sym, subst}
use Rattle.std.proofs.lemmas.Bool.{both_ways, or_parts}
use Rattle.std.proofs.lemmas.List.{append-nil, append_assoc}
use Rattle.cv_syntax_trees.specs.declared.head.Head.{Head}
use Rattle.cv_syntax_trees.specs.declared.head.Head.TheVariants.{Leaf, Primed, Read, Apply, Eq, And, Or, Not, Yes, No, Cons}
use Rattle.cv_syntax_trees.specs.Tree.{Tree, Empty, Node, lone, chain}
use Rattle.cv_parse_notation.specs.declared.sign.Mark.{Mark}
use Rattle.cv_parse_notation.specs.declared.sign.Mark.TheVariants as mark
use Rattle.cv_parse_notation.specs.declared.sign.Sign.{Sign}
use Rattle.cv_parse_notation.specs.Form.{may, made, many, deeper, ◌&◌, ◌▸◌}
use Rattle.cv_parse_notation.specs.Spells.{Kind, is_mark, kind_of, next_is, starts}
use Rattle.cv_parse_grammar.specs.Marks.{plain, primary_of, term_of}
use Rattle.cv_parse_grammar.specs.Phrases.{Phrase, after, bracket}
use Rattle.cv_parse_grammar.specs.Phrases as sort
use Rattle.cv_parse_grammar.specs.Rules.{heads}
use Rattle.cv_parse_grammar.specs.Terms.{called, indexed, term, terms}
use Rattle.cv_parse_grammar.proofs.Marks.{arguments_row, conjunction_row, parentheses_row, plain_in_files, primary_row, subscript_row, term_row}
use Rattle.cv_scope_rules.specs.Phrases.{Nil, Terms, Term, is_phrase}
use Rattle.cv_print_bytes.specs.terminals.Levels.{term_levels, terms_levels}
use Rattle.cv_print_bytes.specs.terminals.Signs.{numbered}
use Rattle.cv_print_bytes.specs.terminals.Told.{Piece, signs_in, shown, term_told, terms_told}
use Rattle.cv_print_bytes.specs.terminals.Written.{IsWritten, has_items, opens}
use Rattle.cv_print_bytes.proofs.terminals.Phrases.{Parted, both_below, deep, deep_beside, nil_is, parted}
use Rattle.cv_print_bytes.proofs.terminals.Spelling.{Blocks, Spelled, SpelledBy, a_sign, a_word, behind, bracketed, by_mark, by_rest, by_told, down_by, free, is_absent, is_there, leveled, no_more, noted, noted_alone, one_more_of, one_way, other_way, pair, squared, turned}

-- the term stands where a primary term is asked for, in files or where names may have marks

abbrev pub TermAtBy : (marks : Bool) → ℕ → Tree → Type 0
TermAtBy marks n t = SpelledBy marks n (primary_of marks) (term_told t) t opens

abbrev pub TermAt : ℕ → Tree → Type 0
TermAt n t = TermAtBy false n t

-- nothing, or something, follows
module _ {marks : Bool} {n : ℕ} {stop : Kind → Bool} where
  pub lone_of : {f : Phrase Tree} {g : Phrase (Tree → Tree)} {ps : List Piece} {t : Tree} → SpelledBy marks n f ps t stop → SpelledBy marks n (made (λ (t, k). after t k) (f & may false g)) ps t stop
  lone_of {f = f} {g = g} {ps = ps} {t = t} p = turned (subst (λ qs. SpelledBy marks n (f & may false g) qs (t, None) stop) (append-nil ps) (pair p by_rest is_absent)) refl

  pub tail_of : {f : Phrase Tree} {g : Phrase (Tree → Tree)} {ps qs : List Piece} {t : Tree} {k : Tree → Tree} {first : Kind → Bool} → SpelledBy marks n f ps t first → Blocks first qs stop → SpelledBy marks n g qs k stop → SpelledBy marks n (made (λ (t, k). after t k) (f & may false g)) (ps ++ qs) (k t) stop
  tail_of p c q = turned (pair p c (is_there q)) refl

pub as_term : {marks : Bool} {n : ℕ} {t : Tree} → TermAtBy marks n t → SpelledBy marks n (term_of marks) (term_told t) t opens
as_term p = lone_of (lone_of (lone_of p))

-- names

no_call : (rest : List Sign) → next_is opens rest ≡ false → next_is (starts heads called) rest ≡ false
no_call [] e = refl
no_call (s ∷ rest) e = (or_parts (is_mark mark.Open (kind_of s)) (is_mark mark.OpenSquare (kind_of s)) e).0

no_index : (rest : List Sign) → next_is opens rest ≡ false → next_is (starts heads indexed) rest ≡ false
no_index [] e = refl
no_index (s ∷ rest) e = (or_parts (is_mark mark.Open (kind_of s)) (is_mark mark.OpenSquare (kind_of s)) e).1

leaf_is : (marks : Bool) (n x : ℕ) → TermAtBy marks n (lone (Leaf (suc x)))
unfolding term_told signs_in numbered
leaf_is false n x =
    one_way (leveled (turned (pair a_word free (other_way (record { blocks = λ k rest e. no_call rest e }) (other_way (record { blocks = λ k rest e. no_index rest e }) (noted_alone (λ i. refl))))) refl))
leaf_is true n x =
    one_way (leveled (turned (pair a_word free (other_way (record { blocks = λ k rest e. no_call rest e }) (other_way (record { blocks = λ k rest e. no_index rest e }) (noted is_absent (λ i. refl))))) refl))

primed_is : (n x : ℕ) → TermAtBy true n (lone (Primed (suc x)))
unfolding term_told
primed_is n x = one_way (leveled (turned (pair a_word free (other_way (by_told (by_mark refl)) (other_way (by_told (by_mark refl)) (noted (is_there a_sign) (λ i. refl))))) refl))

module _ (marks : Bool) where
  read_is : (n x : ℕ) (a : Tree) → SpelledBy marks n terms (terms_told [] a) a opens → TermAtBy marks (suc n) (Node (Read (suc x)) a Empty)
  unfolding term_told
  read_is n x a l = one_way (leveled (turned (pair a_word free (other_way (by_told (by_mark refl)) (one_way (noted (down_by (subscript_row marks) (squared l refl)) (λ i. refl))))) refl))

  apply_is : (n f : ℕ) (a : Tree) → SpelledBy marks n terms (terms_told [] a) a opens → TermAtBy marks (suc n) (Node (Apply (suc f)) a Empty)
  unfolding term_told
  apply_is n f a l = one_way (leveled (turned (pair a_word free (one_way (noted (down_by (arguments_row marks) (bracketed l refl)) (λ i. refl)))) refl))

  constant_is : (n : ℕ) → TermAtBy marks n (lone Yes) × TermAtBy marks n (lone No)
  unfolding term_told
  constant_is n = (other_way (by_mark refl) (other_way (by_mark refl) (one_way (leveled (turned a_sign refl)))), other_way (by_mark refl) (other_way (by_mark refl) (other_way (by_mark refl) (one_way (leveled (turned a_sign refl))))))

  not_is : (n : ℕ) (a : Tree) → TermAtBy marks n a → TermAtBy marks (suc (suc n)) (Node Not a Empty)
  unfolding term_told
  not_is n a p = other_way (by_mark refl) (one_way (leveled (turned (behind (down_by (parentheses_row marks) (bracketed (down_by (term_row marks) (as_term p)) refl))) refl)))

  -- a term with two sides, in parentheses
  in_parentheses : (n : ℕ) (ps qs : List Piece) (m : Mark) (t : Tree) → SpelledBy marks n (term_of marks) (ps ++ (shown m ++ qs)) t opens → SpelledBy marks (suc n) (primary_of marks) (shown mark.Open ++ (ps ++ (shown m ++ (qs ++ shown mark.Close)))) t opens
  in_parentheses n ps qs m t p =
      subst (λ l. SpelledBy marks (suc n) (primary_of marks) (shown mark.Open ++ l) t opens) (append_assoc ps (shown m ++ qs) (shown mark.Close))
      (other_way (by_mark refl) (other_way (by_mark refl) (other_way (by_mark refl) (other_way (by_mark refl) (bracketed (down_by (term_row marks) p) refl)))))

  eq_is : (n : ℕ) (a b : Tree) → TermAtBy marks (suc n) a → TermAtBy marks n b → TermAtBy marks (suc (suc n)) (Node Eq a b)
  unfolding term_told
  eq_is n a b p q = in_parentheses (suc n) (term_told a) (term_told b) mark.Equal (Node Eq a b) (lone_of (lone_of (tail_of p (by_mark refl) (one_way (turned (pair (leveled a_sign) free (down_by (primary_row marks) q)) refl)))))

  and_is : (n : ℕ) (a b : Tree) → TermAtBy marks (suc n) a → TermAtBy marks n b → TermAtBy marks (suc (suc n)) (Node And a b)
  unfolding term_told
  and_is n a b p q = in_parentheses (suc n) (term_told a) (term_told b) mark.Both (Node And a b) (lone_of (tail_of (lone_of p) (by_mark refl) (turned (pair (leveled a_sign) free (down_by (conjunction_row marks) (lone_of (lone_of q)))) refl)))

  or_is : (n : ℕ) (a b : Tree) → TermAtBy marks (suc n) a → TermAtBy marks n b → TermAtBy marks (suc (suc n)) (Node Or a b)
  unfolding term_told
  or_is n a b p q = in_parentheses (suc n) (term_told a) (term_told b) mark.Either (Node Or a b) (tail_of (lone_of (lone_of p)) (by_mark refl) (turned (pair (leveled a_sign) free (down_by (term_row marks) (as_term q))) refl))

  -- the items behind the first
  record More (n : ℕ) (t : Tree) : Type 0 where
    items : List Tree
    are : chain items ≡ t
    spelled : SpelledBy marks n (many false (mark.Comma ▸ deeper sort.Term)) (terms_told (shown mark.Comma) t) items opens

  more_blocks : (t : Tree) → Blocks opens (terms_told (shown mark.Comma) t) opens
  unfolding terms_told
  more_blocks Empty = by_rest
  more_blocks (Node h a b) = by_mark refl

  none_more : (n : ℕ) → More n Empty
  unfolding terms_told
  none_more n = record { items = []; are = refl; spelled = no_more }

  one_more : (n : ℕ) (a b : Tree) → TermAtBy marks n a → More (suc n) b → More (suc n) (Node Cons a b)
  unfolding terms_told
  one_more n a b p q = record { items = a ∷ q.items; are = ap (Node Cons a) q.are; spelled = one_more_of (behind (down_by (term_row marks) (as_term p))) (more_blocks b) q.spelled }

  items_are : (n : ℕ) (a b : Tree) → TermAtBy marks n a → More (suc n) b → SpelledBy marks (suc n) terms (terms_told [] (Node Cons a b)) (Node Cons a b) opens
  unfolding terms_told
  items_are n a b p q = turned (turned (pair (down_by (term_row marks) (as_term p)) (more_blocks b) q.spelled) refl) (ap (Node Cons a) q.are)

-- every written term, and every list of some, where its marks are left out

pub some_items : (marks : Bool) (t : Tree) → has_items (plain marks t) ≡ true → has_items t ≡ true
unfolding plain
some_items marks Empty e = absurd (both_ways _ refl e)
some_items marks (Node h a b) e = refl

pub unary : (h : Head) (P : Tree → Type 0) (a b : Tree) → IsWritten Nil b → P (Node h a Empty) → P (Node h a b)
unary h P a b w p = subst (λ c. P (Node h a c)) (sym (nil_is b w)) p

pub leaf_alone : (h : Head) (P : Tree → Type 0) (a b : Tree) → Parted Nil Nil h a b → P (lone h) → P (Node h a b)
leaf_alone h P a b w p = subst (λ c. P (Node h c b)) (sym (nil_is a w.first)) (unary h P Empty b w.second p)

plain_nil : (marks : Bool) (t : Tree) → IsWritten Nil (plain marks t) → t ≡ Empty
unfolding plain is_phrase
plain_nil marks Empty w = refl
plain_nil marks (Node h a b) w = absurd (both_ways _ refl w.phrase)

pub unary_by : (marks : Bool) (h : Head) (P : Tree → Type 0) (a b : Tree) → IsWritten Nil (plain marks b) → P (Node h a Empty) → P (Node h a b)
unary_by marks h P a b w p = subst (λ c. P (Node h a c)) (sym (plain_nil marks b w)) p

pub leaf_by : (marks : Bool) (h : Head) (P : Tree → Type 0) (a b : Tree) → IsWritten Nil (plain marks a) → IsWritten Nil (plain marks b) → P (lone h) → P (Node h a b)
leaf_by marks h P a b v w p = subst (λ c. P (Node h c b)) (sym (plain_nil marks a v)) (unary_by marks h P Empty b w p)

primed_at : (marks : Bool) (x : ℕ) (a b : Tree) → IsWritten Term (plain marks (Node (Primed x) a b)) → (n : ℕ) → TermAtBy marks n (Node (Primed x) a b)
unfolding plain is_phrase
primed_at false x a b w n = absurd (both_ways _ refl w.phrase)
primed_at true zero a b w n = absurd (both_ways _ refl (parted Term Nil Nil (Leaf zero) (plain true a) (plain true b) refl w).here)
primed_at true (suc x) a b w n =
    let p = parted Term Nil Nil (Leaf (suc x)) (plain true a) (plain true b) refl w in
    leaf_by true (Primed (suc x)) (TermAtBy true n) a b p.first p.second (primed_is n x)

primed_no_list : (marks : Bool) (x : ℕ) (a b : Tree) → IsWritten Terms (plain marks (Node (Primed x) a b)) → ⊥
unfolding plain is_phrase
primed_no_list false x a b w = both_ways _ refl w.phrase
primed_no_list true x a b w = both_ways _ refl w.phrase

module _ (marks : Bool) where
  mutual
    unfolding term_levels is_phrase plain

    pub term_is_by : (t : Tree) → IsWritten Term (plain marks t) → (n : ℕ) → term_levels t ≤ n → TermAtBy marks n t
    term_is_by (Node (Primed x) a b) w n l = primed_at marks x a b w n
    term_is_by (Node (Leaf zero) a b) w n l = absurd (both_ways _ refl (parted Term Nil Nil (Leaf zero) (plain marks a) (plain marks b) refl w).here)
    term_is_by (Node (Leaf (suc x)) a b) w n l =
        let p = parted Term Nil Nil (Leaf (suc x)) (plain marks a) (plain marks b) refl w in
        leaf_by marks (Leaf (suc x)) (TermAtBy marks n) a b p.first p.second (leaf_is marks n x)
    term_is_by (Node (Read zero) a b) w n l = absurd (both_ways _ refl (parted Term Terms Nil (Read zero) (plain marks a) (plain marks b) refl w).here)
    term_is_by (Node (Read (suc x)) a b) w n l =
        let p = parted Term Terms Nil (Read (suc x)) (plain marks a) (plain marks b) refl w in
        unary_by marks (Read (suc x)) (TermAtBy marks n) a b p.second (deep (λ m. TermAtBy marks m (Node (Read (suc x)) a Empty)) n (terms_levels a) l (λ m k. read_is marks m x a (list_is_by a p.first (some_items marks a p.here) m k)))
    term_is_by (Node (Apply zero) a b) w n l = absurd (both_ways _ refl (parted Term Terms Nil (Apply zero) (plain marks a) (plain marks b) refl w).here)
    term_is_by (Node (Apply (suc f)) a b) w n l =
        let p = parted Term Terms Nil (Apply (suc f)) (plain marks a) (plain marks b) refl w in
        unary_by marks (Apply (suc f)) (TermAtBy marks n) a b p.second (deep (λ m. TermAtBy marks m (Node (Apply (suc f)) a Empty)) n (terms_levels a) l (λ m k. apply_is marks m f a (list_is_by a p.first (some_items marks a p.here) m k)))
    term_is_by (Node Eq a b) w n l =
        let p = parted Term Term Term Eq (plain marks a) (plain marks b) refl w in
        deep_beside (λ m. TermAtBy marks m (Node Eq a b)) n (term_levels a) (term_levels b) l (λ m i j. eq_is marks m a b (term_is_by a p.first (suc m) i) (term_is_by b p.second m j))
    term_is_by (Node And a b) w n l =
        let p = parted Term Term Term And (plain marks a) (plain marks b) refl w in
        deep_beside (λ m. TermAtBy marks m (Node And a b)) n (term_levels a) (term_levels b) l (λ m i j. and_is marks m a b (term_is_by a p.first (suc m) i) (term_is_by b p.second m j))
    term_is_by (Node Or a b) w n l =
        let p = parted Term Term Term Or (plain marks a) (plain marks b) refl w in
        deep_beside (λ m. TermAtBy marks m (Node Or a b)) n (term_levels a) (term_levels b) l (λ m i j. or_is marks m a b (term_is_by a p.first (suc m) i) (term_is_by b p.second m j))
    term_is_by (Node Not a b) w n l =
        let p = parted Term Term Nil Not (plain marks a) (plain marks b) refl w in
        unary_by marks Not (TermAtBy marks n) a b p.second (deep (λ m. TermAtBy marks m (Node Not a Empty)) n (suc (term_levels a)) l (λ m k. deep (λ m. TermAtBy marks (suc m) (Node Not a Empty)) m (term_levels a) k (λ m k. not_is marks m a (term_is_by a p.first m k))))
    term_is_by (Node Yes a b) w n l =
        let p = parted Term Nil Nil Yes (plain marks a) (plain marks b) refl w in
        leaf_by marks Yes (TermAtBy marks n) a b p.first p.second (constant_is marks n).0
    term_is_by (Node No a b) w n l =
        let p = parted Term Nil Nil No (plain marks a) (plain marks b) refl w in
        leaf_by marks No (TermAtBy marks n) a b p.first p.second (constant_is marks n).1
    term_is_by t w n l = absurd (both_ways _ refl w.phrase)

    pub list_is_by : (t : Tree) → IsWritten Terms (plain marks t) → has_items t ≡ true → (n : ℕ) → terms_levels t ≤ n → SpelledBy marks n terms (terms_told [] t) t opens
    list_is_by (Node (Primed x) a b) w e n l = absurd (primed_no_list marks x a b w)
    list_is_by (Node Cons a b) w e n l =
        let p = parted Terms Term Terms Cons (plain marks a) (plain marks b) refl w in
        let k = both_below (suc (term_levels a)) (terms_levels b) n l in
        deep (λ m. terms_levels b ≤ m → SpelledBy marks m terms (terms_told [] (Node Cons a b)) (Node Cons a b) opens) n (term_levels a) k.0 (λ m i j. items_are marks m a b (term_is_by a p.first m i) (more_is b p.second (suc m) j)) k.1
    list_is_by Empty w e n l = absurd (both_ways _ refl e)
    list_is_by t w e n l = absurd (both_ways _ refl w.phrase)

    more_is : (t : Tree) → IsWritten Terms (plain marks t) → (n : ℕ) → terms_levels t ≤ n → More marks n t
    more_is Empty w n l = none_more marks n
    more_is (Node (Primed x) a b) w n l = absurd (primed_no_list marks x a b w)
    more_is (Node Cons a b) w n l =
        let p = parted Terms Term Terms Cons (plain marks a) (plain marks b) refl w in
        let k = both_below (suc (term_levels a)) (terms_levels b) n l in
        deep (λ m. terms_levels b ≤ m → More marks m (Node Cons a b)) n (term_levels a) k.0 (λ m i j. one_more marks m a b (term_is_by a p.first m i) (more_is b p.second (suc m) j)) k.1
    more_is t w n l = absurd (both_ways _ refl w.phrase)

-- in files

pub term_is : (t : Tree) → IsWritten Term t → (n : ℕ) → term_levels t ≤ n → TermAt n t
term_is t w n l = term_is_by false t (subst (IsWritten Term) (sym (plain_in_files t)) w) n l

pub list_is : (t : Tree) → IsWritten Terms t → has_items t ≡ true → (n : ℕ) → terms_levels t ≤ n → Spelled n terms (terms_told [] t) t opens
list_is t w e n l = list_is_by false t (subst (IsWritten Terms) (sym (plain_in_files t)) w) e n l
