-- The cells of an experiment have values where its choices have, and then it has tapes.
use Rattle.std.proofs.Common.{ℕ, suc, ◌<◌, ◌≤◌, Bool, true, false, cond, not, ◌==◌, List, [], ◌∷◌, filter, arith, mul-pos}
use Rattle.std.specs.List.{AllByRecursion}
use Rattle.cv_syntax_trees.specs.declared.head.Head.{Head}
use Rattle.cv_syntax_trees.specs.declared.head.Head.TheVariants.{New, Let, Binder, Find, Key, Call, Secret, SecretOnce}
use Rattle.cv_syntax_trees.specs.Tree.{Tree, Empty, Node}
use Rattle.cv_meaning.specs.Tapes.{Cell, same_cell}
use Rattle.cv_meaning.specs.Interpretation.{Setting}
use Rattle.cv_meaning.specs.Runs.{Mode, Events, Real, Random, Adversary}
use Rattle.cv_meaning.specs.Cells.{tuples_below, bounds_under, at_each_copy, cells_at, if_tested, test_cells_at, test_cells, coin_cells, without_repeats, cells}
use Rattle.cv_meaning.specs.Experiments.{Experiment, Breaks, Guesses, mode_of}
use Rattle.cv_meaning.specs.Advantage.{chance_of, secrecy, advantage}
use Rattle.cv_meaning_laws.proofs.Lists.{each_flat_map}
use Rattle.cv_meaning_chances.specs.Tests.{HasValues}
use Rattle.cv_meaning_chances.specs.Fractions.{HasTapes}
use Rattle.cv_meaning_chances.specs.Choices.{HeadHasValues, ChoicesHaveValues}
use Rattle.cv_meaning_chances.proofs.Within.{total_above}
use Rattle.cv_syntax_trees.proofs.lists.Each.{AllByRecursion_append}

abbrev HasValue : Cell × ℕ → Type 0
HasValue c = 0 < c.1

here_values : (g : Setting) (h : Head) → HeadHasValues g h → (u : List ℕ) → HasValues (cells_at g h u)
here_values g (New x T) v u = (v, tt)
here_values g (Find l) v u = (v, tt)
here_values g (Key x) v u = (v, tt)
here_values g (Call x l) v u = v u
here_values g h v u = tt

if_tested_values : (b : Bool) (u : List ℕ) (n : ℕ) → 0 < n → HasValues (if_tested b u n)
if_tested_values true u n v = (v, tt)
if_tested_values false u n v = tt

test_values : (g : Setting) (x : ℕ) (h : Head) → HeadHasValues g h → (u : List ℕ) → HasValues (test_cells_at g x h u)
test_values g x (New y T) v u = if_tested_values (y == x) u (g.interpretation.type_size T) v
test_values g x (Let y T) v u = if_tested_values (y == x) u (g.interpretation.type_size T) v
test_values g x (Binder y T) v u = if_tested_values (y == x) u (g.interpretation.type_size T) v
test_values g x h v u = tt

copies_values : (g : Setting) (give : Head → List ℕ → List (Cell × ℕ)) → ((h : Head) → HeadHasValues g h → (u : List ℕ) → HasValues (give h u)) → (bounds : List ℕ) (b : Tree) → ChoicesHaveValues g b → HasValues (at_each_copy g give bounds b)
unfolding at_each_copy
copies_values g give k bounds Empty v = tt
copies_values g give k bounds (Node h a b) v =
    AllByRecursion_append HasValue _ _ (each_flat_map HasValue (give h) (tuples_below bounds) (k h v.0))
    (AllByRecursion_append HasValue _ _ (copies_values g give k (bounds_under g bounds h) a v.1) (copies_values g give k (bounds_under g bounds h) b v.2))

tests_values : (g : Setting) (m : Mode) (game : Tree) → ChoicesHaveValues g game → HasValues (test_cells g m game)
tests_values g Events game v = tt
tests_values g (Real one x) game v = copies_values g (test_cells_at g x) (test_values g x) [] game v
tests_values g (Random one x) game v = copies_values g (test_cells_at g x) (test_values g x) [] game v

pub coins_values : (k : ℕ) (ns : List ℕ) → AllByRecursion (λ n. 1 ≤ n) ns → HasValues (coin_cells k ns)
coins_values k [] h = tt
coins_values k (n ∷ ns) h = let v : 1 ≤ n = h.0 in (omega arith, coins_values (suc k) ns h.1)

each_filter : (p : Cell × ℕ → Bool) (cs : List (Cell × ℕ)) → HasValues cs → HasValues (filter p cs)
each_filter p [] h = tt
each_filter p (c ∷ cs) h = go (p c) (each_filter p cs h.1)
  where
    go : (b : Bool) → HasValues (filter p cs) → HasValues (cond b (c ∷ filter p cs) (filter p cs))
    go true k = (h.0, k)
    go false k = k

pub once_values : (cs : List (Cell × ℕ)) → HasValues cs → HasValues (without_repeats cs)
once_values [] h = tt
once_values (c ∷ cs) h = (h.0, each_filter (λ (d : Cell × ℕ). not (same_cell d.0 c.0)) (without_repeats cs) (once_values cs h.1))

pub cells_values : (g : Setting) (m : Mode) (a : Adversary) (game : Tree) → ChoicesHaveValues g game → HasValues (cells g m a game)
unfolding cells
cells_values g m a game v =
    once_values _ (AllByRecursion_append HasValue _ _ (copies_values g (cells_at g) (here_values g) [] game v)
    (AllByRecursion_append HasValue _ _ (tests_values g m game v) (coins_values 0 a.coins a.coins_have_values)))

pub chance_has_tapes : (g : Setting) (x : Experiment) (a : Adversary) (game : Tree) → HasValues (cells g (mode_of x) a game) → HasTapes (chance_of g x a game)
unfolding chance_of
chance_has_tapes g x a game v = total_above (cells g (mode_of x) a game) v

some_chance : (g : Setting) (x : Experiment) (a : Adversary) (game : Tree) → ChoicesHaveValues g game → HasTapes (chance_of g x a game)
some_chance g x a game v = chance_has_tapes g x a game (cells_values g (mode_of x) a game v)

secrecy_has_tapes : (g : Setting) (one : Bool) (x : ℕ) (a : Adversary) (game : Tree) → ChoicesHaveValues g game → HasTapes (secrecy g one x a game)
secrecy_has_tapes g one x a game v = mul-pos (some_chance g (Guesses (Real one x)) a game v) (some_chance g (Guesses (Random one x)) a game v)

pub advantage_has_tapes : (g : Setting) (query : Tree) (a : Adversary) (game : Tree) → ChoicesHaveValues g game → HasTapes (advantage g query a game)
advantage_has_tapes g (Node (Secret x) b c) a game v = secrecy_has_tapes g false x a game v
advantage_has_tapes g (Node (SecretOnce x) b c) a game v = secrecy_has_tapes g true x a game v
advantage_has_tapes g query a game v = some_chance g (Breaks query) a game v
