-- The cells of an experiment have values where choices and tests have, and then it has tapes.
use Rattle.std.proofs.Common.{◌≡◌, ℕ, suc, ◌<◌, ◌≤◌, Bool, true, false, List, [], ◌∷◌, ◌==◌, arith, refl, ◌∙◌}
use Rattle.std.specs.List.{AllByRecursion}
use Rattle.cv_syntax_trees.specs.declared.head.Head.{Head}
use Rattle.cv_syntax_trees.specs.declared.head.Head.TheVariants.{New, Let, Find, Binder, Key, Call}
use Rattle.cv_syntax_trees.specs.Tree.{Tree, Empty, Node}
use Rattle.cv_meaning.specs.Tapes.{Cell}
use Rattle.cv_meaning.specs.Interpretation.{Setting}
use Rattle.cv_meaning.specs.Runs.{Mode, Events, Real, Random, Adversary}
use Rattle.cv_meaning.specs.Cells.{tuples_below, bounds_under, at_each_copy, cells_at, if_tested, test_cells_at, test_cells, coin_cells, cells}
use Rattle.cv_meaning.specs.Experiments.{Experiment, mode_of}
use Rattle.cv_meaning.specs.Advantage.{chance_of}
use Rattle.cv_meaning_laws.proofs.Lists.{each_flat_map}
use Rattle.cv_meaning_chances.specs.Tests.{HasValues}
use Rattle.cv_meaning_chances.specs.Fractions.{HasTapes}
use Rattle.cv_meaning_chances.proofs.Totals.{once_values, chance_has_tapes, coins_values}
use Rattle.cv_meaning_chances.specs.values.Values.{is_tested, ConstructHasValues, HasValuesIn}
use Rattle.cv_syntax_trees.proofs.lists.Each.{AllByRecursion_append}

abbrev HasValue : Cell × ℕ → Type 0
HasValue c = 0 < c.1

choice_values : (g : Setting) (m : Mode) (h : Head) → ConstructHasValues g m h → (u : List ℕ) → HasValues (cells_at g h u)
choice_values g m (New x T) v u = (v, tt)
choice_values g m (Find l) v u = (v, tt)
choice_values g m (Key x) v u = (v, tt)
choice_values g m (Call x l) v u = v u
choice_values g m h v u = tt

if_tested_values : (b : Bool) (u : List ℕ) (n : ℕ) → (b ≡ true → 0 < n) → HasValues (if_tested b u n)
if_tested_values true u n v = (v refl, tt)
if_tested_values false u n v = tt

abbrev Tests : Mode → ℕ → Type 0
Tests m x = (y : ℕ) → is_tested m y ≡ (y == x)

test_values : (g : Setting) (m : Mode) (x : ℕ) → Tests m x → (h : Head) → ConstructHasValues g m h → (u : List ℕ) → HasValues (test_cells_at g x h u)
test_values g m x k (New y T) v u = if_tested_values (y == x) u (g.interpretation.type_size T) (λ e. v)
test_values g m x k (Let y T) v u = if_tested_values (y == x) u (g.interpretation.type_size T) (λ e. v)
test_values g m x k (Binder y T) v u = if_tested_values (y == x) u (g.interpretation.type_size T) (λ e. v (k y ∙ e))
test_values g m x k h v u = tt

copies_values : (g : Setting) (m : Mode) (give : Head → List ℕ → List (Cell × ℕ)) → ((h : Head) → ConstructHasValues g m h → (u : List ℕ) → HasValues (give h u)) → (bounds : List ℕ) (b : Tree) → HasValuesIn g m b → HasValues (at_each_copy g give bounds b)
unfolding at_each_copy HasValuesIn
copies_values g m give k bounds Empty v = tt
copies_values g m give k bounds (Node h a b) v =
    AllByRecursion_append HasValue _ _ (each_flat_map HasValue (give h) (tuples_below bounds) (k h v.0))
    (AllByRecursion_append HasValue _ _ (copies_values g m give k (bounds_under g bounds h) a v.1) (copies_values g m give k (bounds_under g bounds h) b v.2))

tests_values : (g : Setting) (m : Mode) (game : Tree) → HasValuesIn g m game → HasValues (test_cells g m game)
tests_values g Events game v = tt
tests_values g (Real one x) game v = copies_values g (Real one x) (test_cells_at g x) (test_values g (Real one x) x (λ y. refl)) [] game v
tests_values g (Random one x) game v = copies_values g (Random one x) (test_cells_at g x) (test_values g (Random one x) x (λ y. refl)) [] game v

pub cells_values : (g : Setting) (m : Mode) (a : Adversary) (game : Tree) → HasValuesIn g m game → HasValues (cells g m a game)
unfolding cells
cells_values g m a game v =
    once_values _ (AllByRecursion_append HasValue _ _ (copies_values g m (cells_at g) (choice_values g m) [] game v)
    (AllByRecursion_append HasValue _ _ (tests_values g m game v) (coins_values 0 a.coins a.coins_have_values)))

pub tapes : (g : Setting) (x : Experiment) (a : Adversary) (game : Tree) → HasValuesIn g (mode_of x) game → HasTapes (chance_of g x a game)
tapes g x a game v = chance_has_tapes g x a game (cells_values g (mode_of x) a game v)
