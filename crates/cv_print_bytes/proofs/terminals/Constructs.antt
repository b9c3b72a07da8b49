-- Each construct of processes is spelled by its signs, where its parts are.
use Rattle.std.proofs.Common.{◌≡◌, ℕ, zero, suc, ◌≤◌, Bool, true, List, [], ◌∷◌, ◌++◌, refl, ap, sym, ◌∙◌}
use Rattle.std.proofs.lemmas.Bool.{both_ways}
use Rattle.std.proofs.lemmas.List.{append-nil, append_assoc}
use Rattle.cv_syntax_trees.specs.declared.head.Head.{Head}
use Rattle.cv_syntax_trees.specs.declared.head.Head.TheVariants.{Leaf, Read, Apply, Eq, And, Or, Not, Yes, No, Stop, Yield, Par, Repl, In, Out, Event, New, Let, If, Find, Branch, Cons}
use Rattle.cv_syntax_trees.specs.Tree.{Tree, Empty, Node, chain, lone}
use Rattle.cv_parse_notation.specs.declared.sign.Mark.TheVariants as mark
use Rattle.cv_parse_notation.specs.declared.sign.Sign.TheVariants as token
use Rattle.cv_parse_notation.specs.Form.{many, deeper, ◌▸◌}
use Rattle.cv_parse_notation.specs.Spells.{Kind, starts}
use Rattle.cv_parse_grammar.specs.declared.role.Asked.TheVariants.{AnEvent}
use Rattle.cv_parse_grammar.specs.declared.role.Role.TheVariants.{Asks, BindsVariable}
use Rattle.cv_parse_grammar.specs.Phrases.{Phrase, bracket, listed}
use Rattle.cv_parse_grammar.specs.Phrases as sort
use Rattle.cv_parse_grammar.specs.Processes.{over, branch, input, inputs, output, pattern, payload, sending}
use Rattle.cv_parse_grammar.specs.Rules.{heads}
use Rattle.cv_parse_grammar.specs.Terms.{condition, defined_condition}
use Rattle.cv_scope_rules.specs.Phrases.{Nil, Binders, Cells, Indices, Terms, Term, is_phrase}
use Rattle.cv_print_bytes.specs.terminals.Levels.{terms_levels}
use Rattle.cv_print_bytes.specs.terminals.Told.{Piece, Shown, arguments_told, branch_told, branches_told, channel_told, condition_told, cells_told, find_told, guard_told, indices_told, process_told, bodies_told, shown, step_told, term_told, terms_told, type_word, variables_told}
use Rattle.cv_print_bytes.specs.terminals.Told as told
use Rattle.cv_print_bytes.specs.terminals.Written.{IsWritten, has_parameters, opens}
use Rattle.cv_print_bytes.proofs.terminals.Lists.{cells_are, channel_is, indices_listed, typed_is, variables_are}
use Rattle.cv_print_bytes.proofs.terminals.Phrases.{no_phrase, parted}
use Rattle.cv_print_bytes.proofs.terminals.Spelling.{Blocks, Spelled, a_nought, a_number, a_sign, a_word, behind, bracketed, by_find, by_mark, by_told, by_word, down, free, is_absent, is_there, joined, leveled, never, no_more_near, one_more_of, one_way, other_way, pair, regrouped, sought, turned}
use Rattle.cv_print_bytes.proofs.terminals.Terms.{TermAt, as_term, list_is, lone_of, tail_of}

-- the process stands where an input process, or an output process, is asked for
abbrev pub InputAt : ℕ → Tree → Type 0
InputAt n t = (stop : Kind → Bool) → Spelled n input (process_told t) t stop

abbrev pub OutputAt : ℕ → Tree → Type 0
OutputAt n t = (stop : Kind → Bool) → Spelled n output (process_told t) t stop

pub as_inputs : {n : ℕ} {t : Tree} {stop : Kind → Bool} → InputAt n t → Spelled n inputs (process_told t) t stop
as_inputs {stop = stop} p = lone_of (p stop)

-- a list between two others
among : {A : Type 0} (ps qs rs us : List A) → (ps ++ (qs ++ rs)) ++ us ≡ ps ++ (qs ++ (rs ++ us))
among ps qs rs us = append_assoc ps (qs ++ rs) us ∙ ap (λ l. ps ++ l) (append_assoc qs rs us)

-- what goes over a channel, before a symbol and a continuation
over_groups : (c x v y z s b : List Piece) → ((c ++ (x ++ (v ++ y))) ++ z) ++ (s ++ b) ≡ (c ++ (x ++ (v ++ (y ++ (z ++ s))))) ++ b
over_groups c x v y z s b = simp append_assoc refl

-- input processes

pub stop_is : (n : ℕ) → InputAt n (lone Stop)
unfolding process_told
stop_is n stop = one_way (leveled (turned a_nought refl))

pub par_is : (n : ℕ) (a b : Tree) → InputAt (suc n) a → InputAt n b → InputAt (suc (suc n)) (Node Par a b)
unfolding process_told
par_is n a b p q stop =
    let t : Spelled (suc n) inputs (process_told a ++ (shown mark.Bar ++ process_told b)) (Node Par a b) never = tail_of (p never) free (turned (pair (leveled a_sign) free (down (as_inputs q))) refl) in
    regrouped (ap (λ l. shown mark.Open ++ l) (append_assoc (process_told a) (shown mark.Bar ++ process_told b) (shown mark.Close)))
    (other_way (by_mark refl) (one_way (bracketed (down t) refl)))

pub repl_is : (n i m : ℕ) (b : Tree) → InputAt n b → InputAt (suc n) (Node (Repl (suc i) (suc m)) Empty b)
unfolding process_told
repl_is n i m b p stop = other_way (by_mark refl) (other_way (by_mark refl) (one_way (leveled (turned (behind (pair a_word free (behind (pair a_word free (down (p stop)))))) refl))))

pub in_is : (n c : ℕ) (l v b : Tree) → IsWritten Indices l → IsWritten Binders v → OutputAt (suc n) b → InputAt (suc (suc n)) (Node (In (suc c)) (Node Cons l v) b)
unfolding process_told
in_is n c l v b i w p stop =
    let t : Spelled (suc n) pattern (shown mark.Open ++ ((channel_told (suc c) l ++ (shown mark.Comma ++ (shown mark.Open ++ (variables_told v ++ shown mark.Close)))) ++ shown mark.Close)) (over ((suc c, l), v)) never =
    bracketed {first = never} (turned (joined {first = never} (channel_is c l i) refl (one_way (down (variables_are v w)))) refl) refl in
    regrouped (ap (λ z. Shown (token.Mark mark.In) ∷ Shown (token.Mark mark.Open) ∷ z) (over_groups (channel_told (suc c) l) (shown mark.Comma ++ shown mark.Open) (variables_told v) (shown mark.Close) (shown mark.Close) (shown mark.Semicolon) (process_told b)))
    (other_way (by_mark refl) (other_way (by_mark refl) (other_way (by_mark refl) (leveled (turned (behind (joined (down t) refl (down (p stop)))) refl)))))

-- output processes

pub yield_is : (n : ℕ) → OutputAt n (lone Yield)
unfolding process_told
yield_is n stop = one_way (leveled (turned a_sign refl))

-- what an output sends, in parentheses
payload_is : (n : ℕ) (t : Tree) → IsWritten Terms t → terms_levels t ≤ n → Spelled n payload (shown mark.Open ++ (terms_told [] t ++ shown mark.Close)) t never
unfolding terms_told
payload_is n Empty w l = bracketed {first = never} (turned is_absent refl) refl
payload_is n (Node h a b) w l = bracketed {first = opens} (turned (is_there (list_is (Node h a b) w refl n l)) refl) refl

pub out_is : (n c : ℕ) (l m b : Tree) → IsWritten Indices l → IsWritten Terms m → terms_levels m ≤ n → InputAt (suc n) b → OutputAt (suc (suc n)) (Node (Out (suc c)) (Node Cons l m) b)
unfolding process_told
out_is n c l m b i w k p stop =
    let t : Spelled (suc n) sending (shown mark.Open ++ ((channel_told (suc c) l ++ (shown mark.Comma ++ (shown mark.Open ++ (terms_told [] m ++ shown mark.Close)))) ++ shown mark.Close)) (over ((suc c, l), m)) never =
    bracketed (turned (joined {first = never} (channel_is c l i) refl (one_way (down (payload_is n m w k)))) refl) refl in
    regrouped (ap (λ z. Shown (token.Mark mark.Out) ∷ Shown (token.Mark mark.Open) ∷ z) (over_groups (channel_told (suc c) l) (shown mark.Comma ++ shown mark.Open) (terms_told [] m) (shown mark.Close) (shown mark.Close) (shown mark.Semicolon) (process_told b)))
    (other_way (by_mark refl) (other_way (by_mark refl) (one_way (leveled (turned (behind (pair (down t) free (turned (is_there (behind (down (p stop)))) refl))) refl)))))

pub new_is : (n x T : ℕ) (b : Tree) → OutputAt n b → OutputAt (suc n) (Node (New (suc x) T) Empty b)
unfolding process_told
new_is n x T b p stop =
    regrouped (ap (λ z. shown mark.New ++ (told.word BindsVariable (suc x) ++ (shown mark.Colon ++ z))) (sym (append_assoc (type_word T) (shown mark.Semicolon) (process_told b))))
    (other_way (by_mark refl) (other_way (by_mark refl) (other_way (by_mark refl) (one_way (leveled (turned (behind (joined {first = never} (typed_is x T) refl (down (p stop)))) refl))))))

pub let_is : (n x T : ℕ) (a b : Tree) → TermAt n a → OutputAt n b → OutputAt (suc n) (Node (Let (suc x) T) a b)
unfolding process_told
let_is n x T a b q p stop =
    regrouped (ap (λ z. shown mark.Let ++ (told.word BindsVariable (suc x) ++ (shown mark.Colon ++ z))) (let_groups (type_word T) (shown mark.Equal) (term_told a) (shown mark.In) (process_told b)))
    (other_way (by_mark refl) (other_way (by_mark refl) (other_way (by_mark refl) (other_way (by_mark refl) (one_way (
    leveled (turned (behind (joined {first = never} (typed_is x T) refl (joined (down (as_term q)) refl (down (p stop))))) refl)
    ))))))
  where
    let_groups : (t e a i b : List Piece) → t ++ (e ++ (a ++ (i ++ b))) ≡ (t ++ (e ++ (a ++ i))) ++ b
    let_groups t e a i b = simp append_assoc refl

arguments_are : (n : ℕ) (t : Tree) → IsWritten Terms t → terms_levels t ≤ n → Spelled (suc n) (listed (deeper sort.Arguments)) (arguments_told t) t never
arguments_are n Empty w l = turned is_absent refl
arguments_are n (Node h a b) w l = turned (is_there (down (bracketed (list_is (Node h a b) w refl n l) refl))) refl

pub event_is : (n e : ℕ) (a b : Tree) → IsWritten Terms a → terms_levels a ≤ n → OutputAt n b → OutputAt (suc n) (Node (Event (suc e)) a b)
unfolding process_told
event_is n e a b w l p stop =
    regrouped (ap (λ z. shown mark.EventWord ++ (told.word (Asks AnEvent) (suc e) ++ z)) (sym (append_assoc (arguments_told a) (shown mark.Semicolon) (process_told b))))
    (other_way (by_mark refl) (other_way (by_mark refl) (other_way (by_mark refl) (other_way (by_mark refl) (other_way (by_mark refl) (one_way (
    leveled (turned (behind (pair a_word free (joined {first = never} (arguments_are n a w l) refl (down (p stop))))) refl)
    )))))))

pub if_is : (n : ℕ) (a b c : Tree) → TermAt n a → OutputAt n b → OutputAt n c → OutputAt (suc n) (Node If a (Node Cons b (Node Cons c Empty)))
unfolding process_told
if_is n a b c p q r stop =
    regrouped (ap (λ z. shown mark.If ++ (term_told a ++ (shown mark.Then ++ (process_told b ++ (shown mark.Else ++ z))))) (sym (append-nil (process_told c))))
    (other_way (by_mark refl) (other_way (by_mark refl) (other_way (by_mark refl) (other_way (by_mark refl) (other_way (by_mark refl) (other_way (by_mark refl) (one_way (
    leveled (turned (behind (joined (down (as_term p)) refl (pair (down (q never)) free (turned (is_there (behind (down (r stop)))) refl)))) refl)
    ))))))))

-- a branch

-- a term doesn't begin with `defined`
term_blocks : (t : Tree) → IsWritten Term t → {last : Kind → Bool} → Blocks (starts heads defined_condition) (term_told t) last
unfolding is_phrase term_told
term_blocks (Node (Leaf zero) a b) w = absurd (both_ways _ refl (parted Term Nil Nil (Leaf zero) a b refl w).here)
term_blocks (Node (Leaf (suc x)) a b) w = by_told (by_word refl)
term_blocks (Node (Read zero) a b) w = absurd (both_ways _ refl (parted Term Terms Nil (Read zero) a b refl w).here)
term_blocks (Node (Read (suc x)) a b) w = by_told (by_word refl)
term_blocks (Node (Apply zero) a b) w = absurd (both_ways _ refl (parted Term Terms Nil (Apply zero) a b refl w).here)
term_blocks (Node (Apply (suc f)) a b) w = by_told (by_word refl)
term_blocks (Node Eq a b) w = by_mark refl
term_blocks (Node And a b) w = by_mark refl
term_blocks (Node Or a b) w = by_mark refl
term_blocks (Node Not a b) w = by_mark refl
term_blocks (Node Yes a b) w = by_mark refl
term_blocks (Node No a b) w = by_mark refl
term_blocks t w = absurd (no_phrase Term t refl w)

condition_is : (n : ℕ) (c m : Tree) → IsWritten Cells c → terms_levels c ≤ n → IsWritten Term m → TermAt n m → Spelled (suc n) condition (condition_told c ++ term_told m) (c, m) opens
condition_is n Empty m w l v p = other_way (term_blocks m v) (turned (down (as_term p)) refl)
condition_is n (Node h a b) m w l v p =
    regrouped (ap (λ z. Shown (token.Mark mark.Defined) ∷ Shown (token.Mark mark.Open) ∷ z) (cells_groups (cells_told [] (Node h a b)) (shown mark.Close) (shown mark.Both) (term_told m)))
    (one_way (behind (pair (down (cells_are {stop = never} (Node h a b) w refl n l)) free (turned (is_there (behind (down (as_term p)))) refl))))
  where
    cells_groups : (c x y m : List Piece) → (c ++ x) ++ (y ++ m) ≡ (c ++ (x ++ y)) ++ m
    cells_groups c x y m = simp append_assoc refl

-- the branch stands where one is asked for, behind the words that it begins with
abbrev pub BranchAt : ℕ → Tree → Type 0
BranchAt n t = (stop : Kind → Bool) → Spelled n branch (branch_told [] t) t stop

pub branch_is : (n : ℕ) (l c m b : Tree) → IsWritten Binders l → has_parameters l ≡ true → IsWritten Cells c → terms_levels c ≤ n → IsWritten Term m → TermAt n m → OutputAt n b → BranchAt (suc n) (Node Branch l (Node Cons c (Node Cons m b)))
unfolding branch_told
branch_is n l c m b w e v k u p q stop =
    regrouped (guard_groups (indices_told l) (shown mark.Suchthat) (condition_told c) (term_told m) (shown mark.Then) (process_told b))
    (leveled (turned (joined {first = never} (indices_listed _ _ l w e) refl (joined (condition_is n c m v k u p) refl (down (q stop)))) refl))
  where
    guard_groups : (i s c m t b : List Piece) → i ++ (s ++ ((c ++ m) ++ (t ++ b))) ≡ (i ++ (s ++ (c ++ (m ++ t)))) ++ b
    guard_groups i s c m t b = simp append_assoc refl

-- the words that a branch begins with stand before the rest of it
pub branch_behind : (before : List Piece) (h i j : Head) (l c m b : Tree) → branch_told before (Node h l (Node i c (Node j m b))) ≡ before ++ branch_told [] (Node h l (Node i c (Node j m b)))
unfolding branch_told
branch_behind before h i j l c m b = append_assoc before (guard_told [] l c m) (process_told b)

-- a branch, and words that it begins with
abbrev pub BeginsBehind : Tree → Type 0
BeginsBehind t = (before : List Piece) → branch_told before t ≡ before ++ branch_told [] t

abbrev pub further : Phrase Tree
further = mark.Orfind ▸ deeper sort.ProcessBranch

-- the branches behind the first
pub record MoreBranches (n : ℕ) (t : Tree) : Type 0 where
  pub items : List Tree
  pub are : chain items ≡ t
  pub spelled : Spelled n (many true further) (branches_told (shown mark.Orfind) t) items (starts heads further)

pub none_more : (n : ℕ) → MoreBranches n Empty
unfolding branches_told
none_more n = record { items = []; are = refl; spelled = no_more_near }

pub one_more : (n : ℕ) (a b : Tree) → BeginsBehind a → BranchAt n a → MoreBranches (suc n) b → MoreBranches (suc n) (Node Cons a b)
unfolding branches_told
one_more n a b e p q = record {
  items = a ∷ q.items;
  are = ap (Node Cons a) q.are;
  spelled = regrouped (ap (λ z. z ++ branches_told (shown mark.Orfind) b) (sym (e (shown mark.Orfind)))) (one_more_of (behind (down (p never))) free q.spelled);
}

pub find_is : (n l : ℕ) (a b c : Tree) → BeginsBehind a → BranchAt n a → MoreBranches (suc n) b → OutputAt n c → OutputAt (suc n) (Node (Find l) (Node Cons a b) c)
unfolding process_told
find_is n l a b c e p q r stop =
    regrouped (ap (λ z. (z ++ branches_told (shown mark.Orfind) b) ++ (shown mark.Else ++ process_told c)) (sym (e (find_told l))))
    (other_way (by_find refl) (other_way (by_find refl) (other_way (by_find refl) (other_way (by_find refl) (other_way (by_find refl) (other_way (by_find refl) (other_way (by_find refl) (
    leveled (turned (pair (sought (pair (is_there (behind a_number)) free (pair (down (p never)) free q.spelled)) (λ i. refl)) (by_mark refl) (turned (is_there (behind (down (r stop)))) refl)) (ap (λ t. Node (Find l) (Node Cons a t) c) q.are))
    ))))))))
