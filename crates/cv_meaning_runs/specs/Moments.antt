-- The moments of a run at which it may consult a cell, and all cells that it consults. This profile's own.
use Rattle.std.specs.Prelude.{ℕ, zero, suc, ◌&&◌, if◌then◌else◌, List, [], ◌∷◌, ◌++◌, map, flat_map, Option, is_some}
use Rattle.cv_syntax_trees.specs.Tree.{Tree}
use Rattle.cv_meaning.specs.Tapes.{Tape, Cell, Test_at, cells_of}
use Rattle.cv_meaning.specs.Interpretation.{Setting}
use Rattle.cv_meaning.specs.Serving.{Visit}
use Rattle.cv_meaning.specs.Consulted.{consulted_at}
use Rattle.cv_meaning.specs.Runs.{Mode, Random, Adversary, Answer, Move, Calls, Tests, Guesses, State, moved, next_move, by_move, visits_of_move, start}
use Rattle.cv_meaning.specs.Cells.{coin_cells}
use Rattle.cv_meaning.specs.Experiments.{coins_on}

-- a construct that a service comes to, or a test with the state before it
pub data Moment : Type 0 where
  Visited : Visit → Moment
  Tested : (tuple : List ℕ) → (before : State) → Moment

-- the cell of a test that tells a random value
abbrev pub cells_of_test : Mode → State → List ℕ → List Cell
cells_of_test (Random one x) st u = if one && st.tested then [] else if is_some (st.memory.store x u) then Test_at u ∷ [] else []
cells_of_test m st u = []

-- the cells that are consulted at a moment
abbrev pub cells_of_moment : Setting → Mode → Moment → List Cell
cells_of_moment g m (Visited v) = consulted_at g v.tree v.before
cells_of_moment g m (Tested u st) = cells_of_test m st u

-- the moments of a move, and those of at most n moves, in order
unfoldable pub moments_of_move : Setting → Tape → State → Move → List Moment
moments_of_move g t st (Calls c u vs) = map Visited (visits_of_move g t st (Calls c u vs))
moments_of_move g t st (Tests u) = Tested u st ∷ []
moments_of_move g t st (Guesses b) = []

unfoldable pub run_moments : Setting → Mode → (List Answer → Option Move) → Tape → ℕ → State → List Moment
run_moments g m next t zero st = []
run_moments g m next t (suc n) st = by_move [] (λ a. moments_of_move g t st a ++ run_moments g m next t n (moved g m t st a)) (next_move next st)

-- the moments of the run on a tape, in order
unfoldable pub moments_of_run : Setting → Mode → Adversary → Tree → Tape → List Moment
moments_of_run g m a game t = run_moments g m (a.next (coins_on t 0 a.coins)) t a.moves (start g game)

-- the visits among moments
abbrev pub visits_among : List Moment → List Visit
visits_among [] = []
visits_among (Visited v ∷ moments) = v ∷ visits_among moments
visits_among (Tested u st ∷ moments) = visits_among moments

-- the cells that the run on a tape consults: its coins, and the cells of its moments
abbrev pub cells_of_run : Setting → Mode → Adversary → Tree → Tape → List Cell
cells_of_run g m a game t = cells_of (coin_cells 0 a.coins) ++ flat_map (cells_of_moment g m) (moments_of_run g m a game t)
