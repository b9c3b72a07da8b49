-- The cells of an experiment, each once, with their sizes. This profile's own.
use Rattle.std.specs.Prelude.{ℕ, suc, Bool, ◌==◌, not, if◌then◌else◌, List, [], ◌∷◌, ◌++◌, map, filter, flat_map}
use Rattle.cv_syntax_trees.specs.declared.head.Head.{Head}
use Rattle.cv_syntax_trees.specs.declared.head.Head.TheVariants.{Repl, New, Let, Find, Binder, Key, Call}
use Rattle.cv_syntax_trees.specs.Tree.{Tree, Empty, Node}
use Rattle.cv_meaning.specs.Tapes.{Cell, New_at, Find_at, Test_at, Key_at, Coin, same_cell}
use Rattle.cv_meaning.specs.Interpretation.{Setting}
use Rattle.cv_meaning.specs.Candidates.{below}
use Rattle.cv_meaning.specs.Runs.{Mode, Events, Real, Random, Adversary}

-- all tuples below these bounds, in the order of lists
unfoldable pub tuples_below : List ℕ → List (List ℕ)
tuples_below [] = [] ∷ []
tuples_below (n ∷ ns) = flat_map (λ v. map (λ u. v ∷ u) (tuples_below ns)) (below n)

-- the bounds of the replications above the children of a node
abbrev pub bounds_under : Setting → List ℕ → Head → List ℕ
bounds_under g bounds (Repl i n) = bounds ++ g.interpretation.parameter_value n ∷ []
bounds_under g bounds h = bounds

-- what each node of a tree gives at each tuple of its replications; first those above the tree
unfoldable pub at_each_copy : Setting → (Head → List ℕ → List (Cell × ℕ)) → List ℕ → Tree → List (Cell × ℕ)
at_each_copy g give bounds Empty = []
at_each_copy g give bounds (Node h a b) =
    flat_map (give h) (tuples_below bounds)
    ++ (at_each_copy g give (bounds_under g bounds h) a ++ at_each_copy g give (bounds_under g bounds h) b)

-- the cells of a construct at an index tuple
abbrev pub cells_at : Setting → Head → List ℕ → List (Cell × ℕ)
cells_at g (New x T) u = (New_at x u, g.interpretation.type_size T) ∷ []
cells_at g (Find l) u = (Find_at l u, g.interpretation.choices) ∷ []
cells_at g (Key x) u = (Key_at u, g.side.key_size) ∷ []
cells_at g (Call x l) u = g.side.cells (record { tuple = u; site = l })
cells_at g h u = []

abbrev pub if_tested : Bool → List ℕ → ℕ → List (Cell × ℕ)
if_tested tested u n = if tested then (Test_at u, n) ∷ [] else []

-- the test cell of a variable, at an index tuple of a definition of it
abbrev pub test_cells_at : Setting → ℕ → Head → List ℕ → List (Cell × ℕ)
test_cells_at g x (New y T) u = if_tested (y == x) u (g.interpretation.type_size T)
test_cells_at g x (Let y T) u = if_tested (y == x) u (g.interpretation.type_size T)
test_cells_at g x (Binder y T) u = if_tested (y == x) u (g.interpretation.type_size T)
test_cells_at g x h u = []

abbrev pub test_cells : Setting → Mode → Tree → List (Cell × ℕ)
test_cells g Events game = []
test_cells g (Real one x) game = at_each_copy g (test_cells_at g x) [] game
test_cells g (Random one x) game = at_each_copy g (test_cells_at g x) [] game

abbrev pub coin_cells : ℕ → List ℕ → List (Cell × ℕ)
coin_cells k [] = []
coin_cells k (n ∷ ns) = (Coin k, n) ∷ coin_cells (suc k) ns

-- the first of each cell
abbrev pub without_repeats : List (Cell × ℕ) → List (Cell × ℕ)
without_repeats [] = []
without_repeats (c ∷ cs) = c ∷ filter (λ (d : Cell × ℕ). not (same_cell d.0 c.0)) (without_repeats cs)

unfoldable pub cells : Setting → Mode → Adversary → Tree → List (Cell × ℕ)
cells g m a game = without_repeats (at_each_copy g (cells_at g) [] game ++ (test_cells g m game ++ coin_cells 0 a.coins))
