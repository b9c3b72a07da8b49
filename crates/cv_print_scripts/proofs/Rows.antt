-- What is printed for a row has the signs that are shown, piece by piece.
use Rattle.std.proofs.Common.{◌≡◌, ℕ, zero, suc, ◌+◌, Bool, true, false, ◌&&◌, ◌||◌, ◌==◌, not, if◌then◌else◌, List, [], ◌∷◌, ◌++◌, length, refl, ap, sym, subst, ◌∙◌, codes, append_assoc}
use Rattle.std.specs.Prelude.{slice_index_or}
use Rattle.cv_syntax_trees.proofs.lists.Tests.{and_first, and_second}
use Rattle.cv_syntax_trees.specs.Tree.{Tree, Empty, Node, first, second}
use Rattle.cv_syntax_trees.specs.declared.head.Head.TheVariants as head
use Rattle.cv_parse_notation.specs.declared.sign.Mark.{Mark}
use Rattle.cv_parse_notation.specs.declared.sign.Sign.{Sign}
use Rattle.cv_parse_notation.specs.declared.sign.Sign.TheVariants as token
use Rattle.cv_parse_tables.specs.spelling.Spelling.{spelling}
use Rattle.cv_parse_tables.specs.spelling.ScriptSpelling.{word_spelling}
use Rattle.cv_parse_tables.specs.declared.piece.Outer.{Outer}
use Rattle.cv_parse_tables.specs.declared.piece.Outer.TheVariants as outer
use Rattle.cv_parse_tables.specs.declared.piece.Piece.{Piece}
use Rattle.cv_parse_tables.specs.declared.piece.Piece.TheVariants as piece
use Rattle.cv_parse_tables.specs.Table.{Table}
use Rattle.cv_print_tables.specs.Layout.{Layout, layout, piece_layout, row_layout}
use Rattle.cv_print_tables.specs.Layout as lay
use Rattle.cv_print_tables.specs.Prints.{Printer, chain_items, name_of, next_belongs, node_items, number_of, outer_text, printed, prints, single_items, takes, tree_text}
use Rattle.cv_print_tables.specs.Prints as print
use Rattle.cv_print_bytes.specs.Known.{AreNames}
use Rattle.cv_print_scripts.specs.steps.Shown.{Shown, Shows, Words, first_of, name_shown, number_shown, one_down, opening, outer_shown, piece_shown, pieces_shown, plain, row_shown, tree_shown}
use Rattle.cv_print_scripts.specs.steps.Shown as show
use Rattle.cv_print_scripts.specs.Known.{is_known}
use Rattle.cv_print_scripts.specs.Parted.{begins, follows, is_apart, is_open, is_parted, is_sure, is_sure_alone, is_told, needs, piece_is_parted, pieces_are_parted, rows_are_parted}
use Rattle.cv_print_scripts.specs.Texts.{words_among}
use Rattle.cv_print_scripts.proofs.Fronts.{Begins, Front, always, at_end, both, left_and, left_or, none, nothing, right_and, right_or, same, weaker}
use Rattle.cv_print_scripts.proofs.Marks.{before_blank, mark_front, name, number, script_word, space}
use Rattle.cv_print_scripts.proofs.Tokens.{Reads}
use Rattle.cv_print_scripts.proofs.Terms.{no_mark, of_subscript, of_term, of_terms, parted}

-- known trees

abbrev pub AllKnown : ℕ → List Tree → Type 0
AllKnown count [] = Unit {0}
AllKnown count (t ∷ ts) = (is_known count t ≡ true) × AllKnown count ts

first_known : (count : ℕ) (t : Tree) → is_known count t ≡ true → is_known count (first t) ≡ true
first_known count Empty k = k
first_known count (Node h a b) k = (parted count h a b k).left

second_known : (count : ℕ) (t : Tree) → is_known count t ≡ true → is_known count (second t) ≡ true
second_known count Empty k = k
second_known count (Node h a b) k = (parted count h a b k).right

chain_known : (count : ℕ) (t : Tree) → is_known count t ≡ true → AllKnown count (chain_items t)
unfolding chain_items
chain_known count Empty k = tt
chain_known count (Node h a b) k = let p = parted count h a b k in (p.left, chain_known count b p.right)

single_known : (count n : ℕ) (t : Tree) → is_known count t ≡ true → AllKnown count (single_items n t)
unfolding single_items
single_known count zero t k = tt
single_known count (suc zero) t k = (k, tt)
single_known count (suc (suc n)) t k = (first_known count t k, single_known count (suc n) (second t) (second_known count t k))

node_known : (count n : ℕ) (t : Tree) → is_known count t ≡ true → AllKnown count (node_items n t)
node_known count zero t k = tt
node_known count (suc n) t k = (first_known count t k, single_known count n (second t) (second_known count t k))

-- what is printed of known trees has the signs that are shown, and leaves the same known trees
pub record Good (names behind : List (List ℕ)) (p q : Bool) (print : Printer) (x : Shows) : Type 0 where
  pub tells : (ts : List Tree) → AllKnown (length names) ts → Front names behind p q (print ts).text (x ts).signs
  pub knows : (ts : List Tree) → AllKnown (length names) ts → AllKnown (length names) (print ts).rest
  pub rest : (ts : List Tree) → (x ts).rest ≡ (print ts).rest

module _ (names behind : List (List ℕ)) (are : AreNames names) where
  abbrev count : ℕ
  count = length names

  text_good : (p q : Bool) (s : List ℕ) (ss : List Sign) → Front names behind p q s ss → Good names behind p q (printed s) (plain ss)
  text_good p q s ss f = record { tells = λ ts k. f; knows = λ ts k. k; rest = λ ts. refl }

  none_good : (p : Bool) → Good names behind p true (printed []) (plain [])
  none_good p = text_good p true [] [] none

  one_good : (p : Bool) (f : Tree → List ℕ) (g : Tree → Shown) → ((t : Tree) → is_known count t ≡ true → Front names behind p true (f t) (g t).signs) → Good names behind p true (print.one f) (show.one g)
  one_good p f g d = record { tells = tells; knows = knows; rest = rest }
    where
      tells : (ts : List Tree) → AllKnown count ts → Front names behind p true (print.one f ts).text (show.one g ts).signs
      tells [] k = none
      tells (t ∷ ts) k = d t k.0

      knows : (ts : List Tree) → AllKnown count ts → AllKnown count (print.one f ts).rest
      knows [] k = tt
      knows (t ∷ ts) k = k.1

      rest : (ts : List Tree) → (show.one g ts).rest ≡ (print.one f ts).rest
      rest [] = refl
      rest (t ∷ ts) = refl

  weak_good : (p q p' q' : Bool) (a : Printer) (x : Shows) → (not p' || p) ≡ true → (not q || q') ≡ true → Good names behind p q a x → Good names behind p' q' a x
  weak_good p q p' q' a x c d g = record { tells = λ ts k. weaker p q p' q' (a ts).text (x ts).signs c d (g.tells ts k); knows = g.knows; rest = g.rest }

  both_good : (p m n q : Bool) (a b : Printer) (x y : Shows) → (not m || n) ≡ true → Good names behind p m a x → Good names behind n q b y → Good names behind p q (λ ts. print.followed (a ts) b) (λ ts. show.followed (x ts) y)
  both_good p m n q a b x y c f g = record {
    tells = λ ts k. both p m n q (a ts).text (b (a ts).rest).text (x ts).signs (y (x ts).rest).signs c (f.tells ts k) (subst (λ r. Front names behind n q (b (a ts).rest).text (y r).signs) (sym (f.rest ts)) (g.tells (a ts).rest (f.knows ts k)));
    knows = λ ts k. g.knows (a ts).rest (f.knows ts k);
    rest = λ ts. ap (λ r. (y r).rest) (f.rest ts) ∙ g.rest (a ts).rest;
  }

  end_good : (p q : Bool) (a : Printer) (x : Shows) → Good names behind p q a x → Good names behind p q (λ ts. print.followed (a ts) (printed [])) (λ ts. show.followed (x ts) (plain []))
  end_good p q a x g = record { tells = λ ts k. at_end p q (a ts).text (x ts).signs (g.tells ts k); knows = g.knows; rest = g.rest }

  choose_good : (p q : Bool) (c : List Tree → Bool) (a b : Printer) (x y : Shows) → Good names behind p q a x → Good names behind p q b y → Good names behind p q (λ ts. if c ts then a ts else b ts) (λ ts. if c ts then x ts else y ts)
  choose_good p q c a b x y f g = record { tells = λ ts k. tells (c ts) ts k; knows = λ ts k. knows (c ts) ts k; rest = λ ts. rest (c ts) ts }
    where
      tells : (d : Bool) (ts : List Tree) → AllKnown count ts → Front names behind p q (if d then a ts else b ts).text (if d then x ts else y ts).signs
      tells true ts k = f.tells ts k
      tells false ts k = g.tells ts k

      knows : (d : Bool) (ts : List Tree) → AllKnown count ts → AllKnown count (if d then a ts else b ts).rest
      knows true ts k = f.knows ts k
      knows false ts k = g.knows ts k

      rest : (d : Bool) (ts : List Tree) → (if d then x ts else y ts).rest ≡ (if d then a ts else b ts).rest
      rest true ts = f.rest ts
      rest false ts = g.rest ts

  either_good : (p q p' q' : Bool) (c : List Tree → Bool) (a b : Printer) (x y : Shows) → Good names behind p q a x → Good names behind p' q' b y → Good names behind (p && p') (q || q') (λ ts. if c ts then a ts else b ts) (λ ts. if c ts then x ts else y ts)
  either_good p q p' q' c a b x y f g = choose_good (p && p') (q || q') c a b x y (weak_good p q (p && p') (q || q') a x (left_and p p') (left_or q q') f) (weak_good p' q' (p && p') (q || q') b y (right_and p p') (right_or q q') g)

  may_good : (p q : Bool) (c : List Tree → Bool) (a : Printer) (x : Shows) → Good names behind p q a x → Good names behind p true (λ ts. if c ts then a ts else printed [] ts) (λ ts. if c ts then x ts else plain [] ts)
  may_good p q c a x f = choose_good p true c a (printed []) x (plain []) (weak_good p q p true a x (same p) (always q) f) (none_good p)

  repeated_good : (p q : Bool) (c : List Tree → Bool) (a : Printer) (x : Shows) → (not q || p) ≡ true → Good names behind p q a x → (n : ℕ) → Good names behind p true (print.repeated c a n) (show.repeated c x n)
  repeated_good p q c a x d f zero = none_good p
  repeated_good p q c a x d f (suc n) = choose_good p true c (λ ts. print.followed (a ts) (print.repeated c a n)) (printed []) (λ ts. show.followed (x ts) (show.repeated c x n)) (plain []) (both_good p q p true a (print.repeated c a n) x (show.repeated c x n) d f (repeated_good p q c a x d f n)) (none_good p)

  many_good : (p q : Bool) (c : List Tree → Bool) (a : Printer) (x : Shows) → (not q || p) ≡ true → Good names behind p q a x → Good names behind p true (λ ts. print.repeated c a (length ts) ts) (λ ts. show.repeated c x (length ts) ts)
  many_good p q c a x d f = record {
    tells = λ ts k. (repeated_good p q c a x d f (length ts)).tells ts k;
    knows = λ ts k. (repeated_good p q c a x d f (length ts)).knows ts k;
    rest = λ ts. (repeated_good p q c a x d f (length ts)).rest ts;
  }

  -- over the items of a tree
  items_good : (p q : Bool) (items : Tree → List Tree) (a : Printer) (x : Shows) → ((t : Tree) → is_known count t ≡ true → AllKnown count (items t)) → Good names behind p q a x → Good names behind p true (print.one (λ t. (a (items t)).text)) (show.one (λ t. x (items t)))
  items_good p q items a x i f = one_good p (λ t. (a (items t)).text) (λ t. x (items t)) (λ t k. weaker p q p true (a (items t)).text (x (items t)).signs (same p) (always q) (f.tells (items t) (i t k)))

  abbrev words : Words
  words = words_among behind

  name_front : (t : Tree) → is_known count t ≡ true → Front names behind false true (name_of names t) (name_shown words t).signs
  name_front (Node (head.Name x) a b) k = name are x (parted count (head.Name x) a b k).here
  name_front t k = none

  number_front : (t : Tree) → is_known count t ≡ true → Front names behind false true (number_of t) (number_shown t).signs
  number_front (Node (head.Number v) a b) k = number v (parted count (head.Number v) a b k).here
  number_front t k = none

  outer_front : (p : Outer) (t : Tree) → is_known count t ≡ true → Front names behind (begins (lay.outer p)) true (outer_text names p t) (outer_shown words p t).signs
  outer_front outer.Term t k = (of_term are t k).front
  outer_front outer.Terms t k = (of_terms are no_mark t k).front
  outer_front outer.InnerTerm t k = (of_term are t k).front
  outer_front outer.InnerSubscript t k = (of_subscript are t k).front
  outer_front outer.Cell t k = (of_term are t k).front
  outer_front outer.InnerCell t k = (of_term are t k).front

  module _ (table : Table) (below : ℕ → Tree → List ℕ) (shows_below : ℕ → Tree → Shown) (low : (r : ℕ) (t : Tree) → is_known count t ≡ true → Front names behind false true (below r t) (shows_below r t).signs) where
    abbrev IsGood : Layout → Shows → Type 0
    IsGood f x = Good names behind (begins f) (needs f) (prints names below f) x

    module _ (b : ℕ) (rows : (r : ℕ) → IsGood (layout table b r) (row_shown words shows_below table b r)) where
      abbrev looks : ℕ → Layout
      looks = layout table b

      abbrev shows : ℕ → Shows
      shows = row_shown words shows_below table b

      -- the first of so many rows
      choice : (r n : ℕ) → IsGood (lay.one_of looks r n) (first_of words shows_below looks shows r n)
      choice r zero = none_good true
      choice r (suc n) =
          let f = looks r in
          let g = lay.one_of looks (r + 1) n in
          either_good (begins f) (needs f) (begins g) (needs g) (next_belongs f) (prints names below f) (prints names below g) (shows r) (first_of words shows_below looks shows (r + 1) n) (rows r) (choice (r + 1) n)

      piece_good : (p : Piece) → piece_is_parted looks p ≡ true → IsGood (piece_layout looks p) (piece_shown words shows_below looks shows p)
      piece_good (piece.Sign m) e = text_good (is_apart (spelling m)) (is_open (spelling m)) (spelling m) (token.Mark m ∷ []) (mark_front m e)
      piece_good (piece.ScriptWord w) e = text_good (is_apart (word_spelling w)) (is_open (word_spelling w)) (word_spelling w) (token.Word (words.number w) w ∷ []) (script_word are w e)
      piece_good piece.Blank e = text_good true false (codes " ") [] space
      piece_good (piece.Note r) e = text_good true true [] [] nothing
      piece_good (piece.Word r) e = one_good false (name_of names) (name_shown words) name_front
      piece_good piece.Number e = one_good false number_of number_shown number_front
      piece_good (piece.Phrase p) e = one_good (begins (lay.outer p)) (outer_text names p) (outer_shown words p) (outer_front p)
      piece_good (piece.Deeper r) e = one_good false (below r) (λ t. one_down (shows_below r t)) (low r)
      piece_good (piece.May near r) e = may_good (begins (looks r)) (needs (looks r)) (next_belongs (looks r)) (prints names below (looks r)) (shows r) (rows r)
      piece_good (piece.Many near r) e = many_good (begins (looks r)) (needs (looks r)) (next_belongs (looks r)) (prints names below (looks r)) (shows r) e (rows r)
      piece_good (piece.Either r s) e = either_good (begins (looks r)) (needs (looks r)) (begins (looks s)) (needs (looks s)) (next_belongs (looks r)) (prints names below (looks r)) (prints names below (looks s)) (shows r) (shows s) (rows r) (rows s)
      piece_good (piece.OneOf r n) e = choice r n
      piece_good (piece.Chain r) e = items_good (begins (looks r)) (needs (looks r)) chain_items (prints names below (looks r)) (shows r) (chain_known count) (rows r)
      piece_good (piece.Over h r) e = items_good (begins (looks r)) (needs (looks r)) (node_items (takes (looks r))) (prints names below (looks r)) (shows r) (node_known count (takes (looks r))) (rows r)
      piece_good (piece.Level r) e = record { tells = (rows r).tells; knows = (rows r).knows; rest = (rows r).rest }

      abbrev PiecesGood : List Piece → Type 0
      PiecesGood ps = IsGood (row_layout looks ps) (pieces_shown words shows_below looks shows ps)

      told_apart : (p : Piece) (ps : List Piece) → piece_is_parted looks p ≡ true → follows (piece_layout looks p) (row_layout looks ps) ≡ true → PiecesGood ps → PiecesGood (p ∷ ps)
      told_apart p [] e c g = let f = piece_layout looks p in end_good (begins f) (needs f) (prints names below f) (piece_shown words shows_below looks shows p) (piece_good p e)
      told_apart p (q ∷ qs) e c g =
          let f = piece_layout looks p in
          let l = row_layout looks (q ∷ qs) in
          both_good (begins f) (needs f) (begins l) (needs l) (prints names below f) (prints names below l) (piece_shown words shows_below looks shows p) (pieces_shown words shows_below looks shows (q ∷ qs)) c (piece_good p e) g

      -- a mark that is told by the blank behind it
      before_a_blank : (m : Mark) (qs : List Piece) → is_sure_alone m ≡ true → PiecesGood (piece.Blank ∷ qs) → PiecesGood (piece.Sign m ∷ (piece.Blank ∷ qs))
      before_a_blank m qs e g = record {
        tells = λ ts k. record {
          goes = λ rest more h w.
              let l = row_layout looks (piece.Blank ∷ qs) in
              let a = (prints names below l ts).text in
              let ss = (pieces_shown words shows_below looks shows (piece.Blank ∷ qs) ts).signs in
              let v = (g.tells ts k).goes rest more h w in
              let x = (prints names below (row_layout looks qs) ts).text in
              let u = before_blank (is_apart (spelling m)) m e (x ++ rest) (ss ++ more) v.1 in
              subst (λ z. Begins (is_apart (spelling m)) z × Reads names behind z (token.Mark m ∷ (ss ++ more))) (sym (append_assoc (spelling m) a rest)) u;
        };
        knows = g.knows;
        rest = g.rest;
      }

      -- a sure mark, or one that stands before a blank
      sure_or_alone : (m : Mark) (qs : List Piece) (b : Bool) → is_sure m ≡ b → (b || (is_sure_alone m && true)) ≡ true → follows (lay.text (spelling m)) (row_layout looks (piece.Blank ∷ qs)) ≡ true → PiecesGood (piece.Blank ∷ qs) → PiecesGood (piece.Sign m ∷ (piece.Blank ∷ qs))
      sure_or_alone m qs true i e c g = told_apart (piece.Sign m) (piece.Blank ∷ qs) i c g
      sure_or_alone m qs false i e c g = before_a_blank m qs (and_first (is_sure_alone m) true e) g

      only_sure : (a b : Bool) → (a || (b && false)) ≡ true → a ≡ true
      only_sure true b e = refl
      only_sure false true e = absurd (cc)
      only_sure false false e = absurd (cc)

      in_front : (p : Piece) (ps : List Piece) → is_told looks p ps ≡ true → follows (piece_layout looks p) (row_layout looks ps) ≡ true → PiecesGood ps → PiecesGood (p ∷ ps)
      in_front (piece.Sign m) (piece.Blank ∷ qs) e c g = sure_or_alone m qs (is_sure m) refl e c g
      in_front (piece.Sign m) ps e c g = told_apart (piece.Sign m) ps (only_sure (is_sure m) (is_sure_alone m) e) c g
      in_front p ps e c g = told_apart p ps e c g

      pieces_good : (ps : List Piece) → pieces_are_parted looks ps ≡ true → PiecesGood ps
      pieces_good [] e = text_good true true [] [] nothing
      pieces_good (p ∷ ps) e =
          let c = follows (piece_layout looks p) (row_layout looks ps) in
          let i = and_second (is_told looks p ps) (c && pieces_are_parted looks ps) e in
          in_front p ps (and_first (is_told looks p ps) (c && pieces_are_parted looks ps) e) (and_first c (pieces_are_parted looks ps) i) (pieces_good ps (and_second c (pieces_are_parted looks ps) i))

    this_or_lower : (f g : Layout) (x y : Shows) (c : Bool) → IsGood f x → IsGood g y → IsGood (lay.which c f g) (λ ts. show.which words shows_below c x y ts)
    this_or_lower f g x y true v w = v
    this_or_lower f g x y false v w = w

    rows_good : (b : ℕ) → rows_are_parted table b ≡ true → (r : ℕ) → IsGood (layout table b r) (row_shown words shows_below table b r)
    rows_good zero e r = none_good true
    rows_good (suc b) e r =
        let ps = slice_index_or table b [] in
        let here = and_first (pieces_are_parted (layout table b) ps) (rows_are_parted table b) e in
        let lower = rows_good b (and_second (pieces_are_parted (layout table b) ps) (rows_are_parted table b) e) in
        this_or_lower (row_layout (layout table b) ps) (layout table b r) (pieces_shown words shows_below (layout table b) (row_shown words shows_below table b) ps) (row_shown words shows_below table b r) (r == b) (pieces_good b lower ps here) (lower r)

  -- the text of a tree by a row
  pub tree_front : (table : Table) → is_parted table ≡ true → (n r : ℕ) (t : Tree) → is_known count t ≡ true → Front names behind false true (tree_text table names n r t) (tree_shown words table n r t).signs
  unfolding tree_text tree_shown
  tree_front table e zero r t k = none
  tree_front table e (suc n) r t k =
      let l = layout table (length table) r in
      weaker (begins l) (needs l) false true _ _ refl (always (needs l)) ((rows_good table (tree_text table names n) (tree_shown words table n) (tree_front table e n) (length table) e r).tells (t ∷ []) (k, tt))
