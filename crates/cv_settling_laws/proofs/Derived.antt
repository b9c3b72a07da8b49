-- Lists of lines whose reasons are right.
use Rattle.std.proofs.Common.{◌≡◌, ℕ, zero, suc, ◌+◌, ◌-◌, ◌<◌, ◌≤◌, ◌^◌, ◌==◌, true, cond, not, nat_lt, List, [], ◌∷◌, ◌++◌, length, map, drop, slice_get, Some, None, refl, sym, ap, subst, ◌∙◌, arith, eq-eqb, ne_eqb, lt-ltb, le-ltb}
use Rattle.std.specs.List.{AllByRecursion}
use Rattle.std.proofs.lemmas.Bool.{and_from}
use Rattle.cv_syntax_trees.specs.declared.head.Head.TheVariants.{Cons}
use Rattle.cv_syntax_trees.specs.Tree.{Tree, Empty, Node}
use Rattle.cv_syntax_trees.specs.sites.Sites.{first_of}
use Rattle.cv_syntax_trees.proofs.Equality.{same_tree_self}
use Rattle.cv_syntax_trees.proofs.lists.Options.{AllByRecursion_slice_get, none_some}
use Rattle.cv_step_writer.specs.Items.{number}
use Rattle.cv_scene.specs.Derivations.{Derives, first_bad, nothing_visible, unless, with_line}
use Rattle.cv_scene.specs.Reasons.{is_right}
use Rattle.cv_scene.specs.Sights.{Sight, from_one}
use Rattle.cv_scene.specs.lines.Ends.{is_end, same_statement, same_statements}
use Rattle.cv_scene.specs.lines.Inferences.{Visible, cited_cell, cited_term, cell_in, number_of, term_in}
use Rattle.cv_scene.specs.lines.Lines.{By, Holds, IsDefined, Statement, lines_of, statements}
use Rattle.cv_scene.specs.lines.Targets.{target}
use Rattle.cv_settling_rules.specs.Lines.{Line, derivation, statement_tree}

-- what may be cited behind lines, the first of which has a number
abbrev pub seen_behind : Visible → ℕ → List Line → Visible
seen_behind v n [] = v
seen_behind v n (l ∷ ls) = seen_behind (with_line v n l.says) (n + 1) ls

abbrev pub AreRight : Sight → Visible → ℕ → List Line → Type 0
AreRight s v n [] = Unit {0}
AreRight s v n (l ∷ ls) = (is_right s Empty v l.says l.reason ≡ true) × AreRight s (with_line v n l.says) (n + 1) ls

by_line : (t : Statement) (r rest : Tree) → lines_of (Node Cons (statement_tree t r) rest) ≡ By t r (lines_of rest)
unfolding lines_of
by_line (Holds t) r rest = refl
by_line (IsDefined c) r rest = refl

pub none_bad : (s : Sight) (v : Visible) (n : ℕ) (ls : List Line) → AreRight s v n ls → first_bad s Empty v n (lines_of (derivation ls)) ≡ None
unfolding first_bad lines_of
none_bad s v n [] k = refl
none_bad s v n (l ∷ ls) k =
    ap (first_bad s Empty v n) (by_line l.says l.reason (derivation ls))
    ∙ (λ i. first_of (unless (k.0 i) n) (none_bad s (with_line v n l.says) (n + 1) ls k.1 i))

statements_are : (ls : List Line) → statements (lines_of (derivation ls)) ≡ map (λ (l : Line). l.says) ls
unfolding statements lines_of
statements_are [] = refl
statements_are (l ∷ ls) = ap statements (by_line l.says l.reason (derivation ls)) ∙ ap (λ ts. l.says ∷ ts) (statements_are ls)

-- lines behind lines

pub right_append : (s : Sight) (v : Visible) (n m : ℕ) (xs ys : List Line) → n + length xs ≡ m → AreRight s v n xs → AreRight s (seen_behind v n xs) m ys → AreRight s v n (xs ++ ys)
right_append s v n m [] ys e k r = subst (λ i. AreRight s v i ys) (let f : m ≡ n = omega arith in f) r
right_append s v n m (x ∷ xs) ys e k r = (k.0, right_append s (with_line v n x.says) (n + 1) m xs ys (omega arith) k.1 r)

pub seen_append : (v : Visible) (n m : ℕ) (xs ys : List Line) → n + length xs ≡ m → seen_behind v n (xs ++ ys) ≡ seen_behind (seen_behind v n xs) m ys
seen_append v n m [] ys e = ap (λ i. seen_behind v i ys) (let f : n ≡ m = omega arith in f)
seen_append v n m (x ∷ xs) ys e = seen_append (with_line v n x.says) (n + 1) m xs ys (omega arith)

-- nothing is said from a number on
abbrev pub IsOpen : Visible → ℕ → Type 0
IsOpen v n = (m : ℕ) → n ≤ m → v m ≡ None

pub open_nothing : (n : ℕ) → IsOpen nothing_visible n
open_nothing n m l = refl

pub open_line : (v : Visible) (n : ℕ) (t : Statement) → IsOpen v n → IsOpen (with_line v n t) (n + 1)
open_line v n t o m l = (λ i. first_of (o m (let k : n ≤ m = omega arith in k) i) (cond (n == m) (Some t) None)) ∙ ap (λ b. cond b (Some t) None) (ne_eqb n m (λ e. let f : n ≡ m = e in absurd (omega arith)))

pub open_lines : (v : Visible) (n m : ℕ) (ls : List Line) → n + length ls ≡ m → IsOpen v n → IsOpen (seen_behind v n ls) m
open_lines v n m [] e o = λ i l. o i (let k : n ≤ i = omega arith in k)
open_lines v n m (l ∷ ls) e o = open_lines (with_line v n l.says) (n + 1) m ls (omega arith) (open_line v n l.says o)

pub said_here : (v : Visible) (n : ℕ) (t : Statement) → IsOpen v n → with_line v n t n ≡ Some t
said_here v n t o = (λ i. first_of (o n (let k : n ≤ n = omega arith in k) i) (cond (n == n) (Some t) None)) ∙ ap (λ b. cond b (Some t) None) (eq-eqb n n refl)

pub said_before : (v : Visible) (n m : ℕ) (t u : Statement) → v m ≡ Some u → with_line v n t m ≡ Some u
said_before v n m t u e = ap (λ o. first_of o (cond (n == m) (Some t) None)) e

pub said_above : (v : Visible) (n m : ℕ) (ls : List Line) (u : Statement) → v m ≡ Some u → seen_behind v n ls m ≡ Some u
said_above v n m [] u e = e
said_above v n m (l ∷ ls) u e = said_above (with_line v n l.says) (n + 1) m ls u (said_before v n m l.says u e)

-- numbers

pub number_is : (n : ℕ) → n < 2 ^ 32 → number_of (number n) ≡ n
number_is n l = ap (λ b. cond b n 0) (lt-ltb n (2 ^ 32) l)

pub cites_term : (v : Visible) (l : ℕ) (t : Tree) → l < 2 ^ 32 → v l ≡ Some (Holds t) → cited_term v (number l) ≡ t
cites_term v l t k e = ap (λ n. term_in (v n)) (number_is l k) ∙ ap term_in e

pub cites_cell : (v : Visible) (l : ℕ) (c : Tree) → l < 2 ^ 32 → v l ≡ Some (IsDefined c) → cited_cell v (number l) ≡ c
cites_cell v l c k e = ap (λ n. cell_in (v n)) (number_is l k) ∙ ap cell_in e

got_below : {A : Type 0} (xs : List A) (k : ℕ) (x : A) → slice_get xs k ≡ Some x → k < length xs
got_below [] k x e = absurd (none_some x e)
got_below (y ∷ ys) zero x e = omega arith
got_below (y ∷ ys) (suc k) x e = let l = got_below ys k x e in omega arith

-- an item that has a number from 1 on is one of few
pub number_is_small : {A : Type 0} (xs : List A) (k : ℕ) (x : A) → length xs < 2 ^ 32 → from_one xs k ≡ Some x → k < 2 ^ 32
number_is_small xs zero x l e = absurd (none_some x e)
number_is_small xs (suc k) x l e = let m = got_below xs k x e in omega arith

pub from_one_all : {A : Type 0} (P : A → Type 0) (xs : List A) (k : ℕ) (x : A) → AllByRecursion P xs → from_one xs k ≡ Some x → P x
from_one_all P xs zero x h e = absurd (none_some x e)
from_one_all P xs (suc k) x h e = AllByRecursion_slice_get P xs h k x e

-- ends

-- the last one says this
abbrev pub ends_in_line : List Line → Statement → Type 0
ends_in_line [] t = ⊥
ends_in_line (l ∷ []) t = l.says ≡ t
ends_in_line (l ∷ (m ∷ ls)) t = ends_in_line (m ∷ ls) t

pub end_append : (xs : List Line) (y : Line) (ys : List Line) (t : Statement) → ends_in_line (y ∷ ys) t → ends_in_line (xs ++ y ∷ ys) t
end_append [] y ys t e = e
end_append (x ∷ []) y ys t e = e
end_append (x ∷ (z ∷ xs)) y ys t e = end_append (z ∷ xs) y ys t e

one_end : (m : Tree) (ls : List Line) → ends_in_line ls (Holds m) → is_end (map (λ (l : Line). l.says) ls) (Holds m ∷ []) ≡ true
one_end m ls e = and_from _ _ (longer ls e) (last ls e)
  where
    says : List Line → List Statement
    says ls = map (λ (l : Line). l.says) ls

    longer : (ls : List Line) → ends_in_line ls (Holds m) → not (nat_lt (length (says ls)) 1) ≡ true
    longer [] e = absurd e
    longer (l ∷ ls) e = ap not (le-ltb (length (says (l ∷ ls))) 1 (omega arith))

    one : (t : Statement) → t ≡ Holds m → same_statement t (Holds m) ≡ true
    one t e = ap (λ u. same_statement u (Holds m)) e ∙ same_tree_self m

    last : (ls : List Line) → ends_in_line ls (Holds m) → same_statements (drop (length (says ls) - 1) (says ls)) (Holds m ∷ []) ≡ true
    last [] e = absurd e
    last (l ∷ []) e = and_from (same_statement l.says (Holds m)) true (one l.says e) refl
    last (l ∷ (k ∷ ls)) e =
        let f : suc (suc (length (says ls))) - 1 ≡ suc (length (says ls)) = omega arith in
        let g : suc (length (says ls)) - 1 ≡ length (says ls) = omega arith in
        ap (λ n. same_statements (drop n (says (l ∷ (k ∷ ls)))) (Holds m ∷ [])) f ∙ (sym (ap (λ n. same_statements (drop n (says (k ∷ ls))) (Holds m ∷ [])) g) ∙ last (k ∷ ls) e)

-- lines that are right and end with a term
pub derives : (s : Sight) (m : Tree) (ls : List Line) → AreRight s nothing_visible 1 ls → ends_in_line ls (Holds m) → Derives s (derivation ls) (target m)
unfolding statements lines_of
derives s m ls k e = record {
  right = none_bad s nothing_visible 1 ls k;
  end = ap (λ ts. is_end ts (Holds m ∷ [])) (statements_are ls) ∙ one_end m ls e;
}
