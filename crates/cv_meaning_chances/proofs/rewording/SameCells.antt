-- A game and its rewording have the same cells, so an experiment that holds alike in both has one chance.
use Rattle.std.proofs.Common.{◌≡◌, ℕ, Bool, true, false, cond, List, [], ◌∷◌, ◌++◌, flat_map, refl, sym, ap, ap₂, ◌+◌, ◌∙◌}
use Rattle.std.proofs.lemmas.Bool.{both_ways, and_parts}
use Rattle.std.proofs.lemmas.List.Elements.{All-head, All-tail, All-weaker}
use Rattle.std.proofs.lemmas.List.Sums.{sum_by-cons}
use Rattle.std.specs.List.{All, AllByRecursion, count_by}
use Rattle.cv_syntax_trees.specs.declared.head.Head.{Head}
use Rattle.cv_syntax_trees.specs.declared.head.Head.TheVariants.{Par, New, Let, Find, Branch, Binder, Cons, Key, Call}
use Rattle.cv_syntax_trees.specs.Tree.{Tree, Empty, Node}
use Rattle.cv_meaning.specs.Tapes.{Cell, Tape, blank, count, total}
use Rattle.cv_meaning.specs.Interpretation.{Setting}
use Rattle.cv_meaning.specs.Runs.{Mode, Events, Real, Random, Adversary}
use Rattle.cv_meaning.specs.Cells.{tuples_below, bounds_under, at_each_copy, cells_at, test_cells_at, test_cells, coin_cells, without_repeats, cells}
use Rattle.cv_meaning.specs.Serving.{Visit}
use Rattle.cv_meaning.specs.Experiments.{Experiment, mode_of, holds_on, visits_of_run}
use Rattle.cv_meaning.specs.Chances.{chance}
use Rattle.cv_meaning.specs.Advantage.{chance_of}
use Rattle.cv_meaning_laws.specs.adequacy.Counted.{tapes_of}
use Rattle.cv_meaning_laws.proofs.adequacy.Counting.{count_is}
use Rattle.cv_meaning_runs.specs.Replacement.{Part, Process, Branches}
use Rattle.cv_meaning.specs.Still.{head_is_still, is_still}
use Rattle.cv_meaning_chances.specs.rewording.Rewording.{IsReworded, same, kept, reworded, in_parallel, in_list, in_find, in_branch}
use Rattle.cv_meaning_chances.proofs.rewording.Alike.{holds_reworded}

flat_none : {A : Type 0} (f : A → List (Cell × ℕ)) → ((x : A) → f x ≡ []) → (xs : List A) → flat_map f xs ≡ []
flat_none f e [] = refl
flat_none f e (x ∷ xs) = ap₂ ◌++◌ (e x) (flat_none f e xs)

module _ (g : Setting) (give : Head → List ℕ → List (Cell × ℕ)) (still : (h : Head) (u : List ℕ) → head_is_still h ≡ true → give h u ≡ []) where
  still_none : (bounds : List ℕ) (t : Tree) → is_still t ≡ true → at_each_copy g give bounds t ≡ []
  unfolding at_each_copy
  still_none bounds Empty e = refl
  still_none bounds (Node h a b) e =
      let p = and_parts (head_is_still h) _ e in
      let q = and_parts (is_still a) _ p.1 in
      ap₂ ◌++◌ (flat_none (give h) (λ u. still h u p.0) (tuples_below bounds)) (ap₂ ◌++◌ (still_none (bounds_under g bounds h) a q.0) (still_none (bounds_under g bounds h) b q.1))

  -- two nodes of one head, at equal cells of their children
  node_copies : (bounds : List ℕ) (h : Head) (a b c d : Tree) → at_each_copy g give (bounds_under g bounds h) a ≡ at_each_copy g give (bounds_under g bounds h) c → at_each_copy g give (bounds_under g bounds h) b ≡ at_each_copy g give (bounds_under g bounds h) d
      → at_each_copy g give bounds (Node h a b) ≡ at_each_copy g give bounds (Node h c d)
  unfolding at_each_copy
  node_copies bounds h a b c d e f = ap₂ (λ k l. flat_map (give h) (tuples_below bounds) ++ (k ++ l)) e f

  both_still : (bounds : List ℕ) (a c : Tree) → is_still a ≡ true → is_still c ≡ true → at_each_copy g give bounds a ≡ at_each_copy g give bounds c
  both_still bounds a c e f = still_none bounds a e ∙ sym (still_none bounds c f)

  pub same_copies : (V : Visit → Type 0) (part : Part) (p : ℕ) (bounds : List ℕ) (b c : Tree) → IsReworded g V part p b c → at_each_copy g give bounds b ≡ at_each_copy g give bounds c
  same_copies V part p bounds b c same = refl
  same_copies V part p bounds b c (kept {h = h} {a = a} {b = x} {c = y} z) = node_copies bounds h a x a y refl (same_copies V Process _ (bounds_under g bounds h) x y z)
  same_copies V part p bounds b c (reworded {h = h} {a = a} {b = x} {c = d} {d = y} e i j f z) = node_copies bounds h a x d y (both_still (bounds_under g bounds h) a d i j) (same_copies V Process _ (bounds_under g bounds h) x y z)
  same_copies V part p bounds b c (in_parallel {a = a} {b = x} {c = d} {d = y} w z) = node_copies bounds Par a x d y (same_copies V Process _ bounds a d w) (same_copies V Process _ bounds x y z)
  same_copies V part p bounds b c (in_list {a = a} {b = x} {c = d} {d = y} w z) = node_copies bounds Cons a x d y (same_copies V Process _ bounds a d w) (same_copies V Process _ bounds x y z)
  same_copies V part p bounds b c (in_find {l = l} {a = a} {b = x} {c = d} {d = y} f w z) = node_copies bounds (Find l) a x d y (same_copies V Branches _ bounds a d w) (same_copies V Process _ bounds x y z)
  same_copies V part p bounds b c (in_branch {binders = us} {cells = cells} {c = x} {b = y} {list = list} {d = d} {e = e} {more = more} {rest = rest} i j l m w z) =
      node_copies bounds Cons (Node Branch us (Node Cons cells (Node Cons x y))) more (Node Branch us (Node Cons list (Node Cons d e))) rest
      (node_copies bounds Branch us (Node Cons cells (Node Cons x y)) us (Node Cons list (Node Cons d e)) refl
      (node_copies bounds Cons cells (Node Cons x y) list (Node Cons d e) (both_still bounds cells list i l)
      (node_copies bounds Cons x y d e (both_still bounds x d j m) (same_copies V Process _ bounds y e w))))
      (same_copies V Branches _ bounds more rest z)

still_cells : (g : Setting) (h : Head) (u : List ℕ) → head_is_still h ≡ true → cells_at g h u ≡ []
still_cells g (New x T) u e = absurd (both_ways false refl e)
still_cells g (Find l) u e = absurd (both_ways false refl e)
still_cells g (Key x) u e = absurd (both_ways false refl e)
still_cells g (Call x l) u e = absurd (both_ways false refl e)
still_cells g h u e = refl

still_tests : (g : Setting) (x : ℕ) (h : Head) (u : List ℕ) → head_is_still h ≡ true → test_cells_at g x h u ≡ []
still_tests g x (New y T) u e = absurd (both_ways false refl e)
still_tests g x (Let y T) u e = absurd (both_ways false refl e)
still_tests g x (Binder y T) u e = absurd (both_ways false refl e)
still_tests g x h u e = refl

module _ (g : Setting) (V : Visit → Type 0) (game next : Tree) (z : IsReworded g V Process 0 game next) where
  same_tests : (m : Mode) → test_cells g m game ≡ test_cells g m next
  same_tests Events = refl
  same_tests (Real one x) = same_copies g (test_cells_at g x) (still_tests g x) V Process 0 [] game next z
  same_tests (Random one x) = same_copies g (test_cells_at g x) (still_tests g x) V Process 0 [] game next z

  pub same_cells : (m : Mode) (a : Adversary) → cells g m a game ≡ cells g m a next
  unfolding cells
  same_cells m a = ap₂ (λ k l. without_repeats (k ++ (l ++ coin_cells 0 a.coins))) (same_copies g (cells_at g) (still_cells g) V Process 0 [] game next z) (same_tests m)

-- tests that are equal on each tape that is counted have one chance

pub count_alike : (p q : Tape → Bool) (ts : List Tape) → All (λ t. p t ≡ q t) ts → count_by p ts ≡ count_by q ts
count_alike p q [] e = refl
count_alike p q (t ∷ ts) e =
    sum_by-cons (λ u. cond (p u) 1 0) t ts
    ∙ (ap₂ (λ b n. cond b 1 0 + n) (All-head (λ u. p u ≡ q u) t ts e) (count_alike p q ts (All-tail (λ u. p u ≡ q u) t ts e)) ∙ sym (sum_by-cons (λ u. cond (q u) 1 0) t ts))

pub same_chances : (g h : Setting) (x y : Experiment) (a : Adversary) (game next : Tree) → cells g (mode_of x) a game ≡ cells h (mode_of y) a next
    → All (λ t. holds_on g x a game t ≡ holds_on h y a next t) (tapes_of (cells g (mode_of x) a game) blank) → chance_of g x a game ≡ chance_of h y a next
unfolding chance_of
same_chances g h x y a game next e f =
    let cs : List (Cell × ℕ) = cells g (mode_of x) a game in
    let p : Tape → Bool = holds_on g x a game in
    let q : Tape → Bool = holds_on h y a next in
    let k : count cs p blank ≡ count cs q blank = count_is cs p blank ∙ (count_alike p q (tapes_of cs blank) f ∙ sym (count_is cs q blank)) in
    (λ i. record { good = k i; all = total cs }) ∙ ap (λ ds. chance ds q) e

pub reworded_chances : (g : Setting) (V : Tape → Visit → Type 0) (x : Experiment) (a : Adversary) (game next : Tree) → ((t : Tape) → IsReworded g (V t) Process 0 game next)
    → All (λ t. AllByRecursion (V t) (visits_of_run g (mode_of x) a game t)) (tapes_of (cells g (mode_of x) a game) blank) → chance_of g x a game ≡ chance_of g x a next
reworded_chances g V x a game next z w =
    same_chances g g x x a game next (same_cells g (V blank) game next (z blank) (mode_of x) a)
    (All-weaker (λ t. AllByRecursion (V t) (visits_of_run g (mode_of x) a game t)) (λ t. holds_on g x a game t ≡ holds_on g x a next t) (λ t v. holds_reworded g (V t) x a game next t (z t) v) _ w)
