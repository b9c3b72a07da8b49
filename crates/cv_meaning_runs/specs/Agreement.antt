-- Two tapes that agree at some cells, and two runs that agree up to a moment. This profile's own.
use Rattle.std.specs.Prelude.{◌≡◌, Bool, false, List, [], ◌∷◌}
use Rattle.std.specs.List.{AllByRecursion, list_any}
use Rattle.cv_syntax_trees.specs.Tree.{Tree}
use Rattle.cv_meaning.specs.Tapes.{Tape, Cell, Key_at, cells_of}
use Rattle.cv_meaning.specs.Side.{Side, Arrays, OracleCall}
use Rattle.cv_meaning.specs.Interpretation.{Setting}
use Rattle.cv_meaning.specs.Serving.{Visit}
use Rattle.cv_meaning.specs.Consulted.{consulted_at}
use Rattle.cv_meaning.specs.Runs.{Mode, Adversary}
use Rattle.cv_meaning.specs.Cells.{coin_cells}
use Rattle.cv_meaning.specs.Experiments.{run, visits_of_run}
use Rattle.cv_meaning_runs.specs.Moments.{Moment, cells_of_moment, moments_of_run, cells_of_run}

-- the tapes have the same value in each of these cells
abbrev pub AgreeAt : List Cell → Tape → Tape → Type 0
AgreeAt cells t u = AllByRecursion (λ c. t c ≡ u c) cells

-- the tapes have the same value in each cell that is not marked
abbrev pub AgreeOff : (Cell → Bool) → Tape → Tape → Type 0
AgreeOff marked t u = (c : Cell) → marked c ≡ false → t c ≡ u c

-- the tapes differ in marked cells alone, and in no coin of the adversary
pub record AgreeBut (a : Adversary) (marked : Cell → Bool) (t u : Tape) : Type 0 where
  pub off : AgreeOff marked t u
  pub coins : AgreeAt (cells_of (coin_cells 0 a.coins)) t u

-- an answer of the side depends on the key and on the cells of the call alone
abbrev pub IsLocal : Side → Type 0
IsLocal side =
    (t u : Tape) (arrays : Arrays) (call : OracleCall) →
    AgreeAt (Key_at call.key ∷ cells_of (side.cells call.number)) t u → side.reply t arrays call ≡ side.reply u arrays call

-- the runs on two tapes are one
pub record SameRun (g : Setting) (m : Mode) (a : Adversary) (game : Tree) (t u : Tape) : Type 0 where
  pub state : run g m a game t ≡ run g m a game u
  pub moments : moments_of_run g m a game t ≡ moments_of_run g m a game u
  pub visits : visits_of_run g m a game t ≡ visits_of_run g m a game u
  pub cells : cells_of_run g m a game t ≡ cells_of_run g m a game u

-- the lists are the same up to and with the first that stops, or all along
abbrev pub SameUpTo : {A : Type 0} → (A → Bool) → List A → List A → Type 0
SameUpTo stops [] [] = Unit {0}
SameUpTo stops (x ∷ xs) (y ∷ ys) = (x ≡ y) × (stops x ≡ false → SameUpTo stops xs ys)
SameUpTo stops _ _ = ⊥

-- a marked cell is consulted at the visit
abbrev pub visit_consults : Setting → (Cell → Bool) → Visit → Bool
visit_consults g marked v = list_any marked (consulted_at g v.tree v.before)

-- the same of a moment
abbrev pub consults : Setting → Mode → (Cell → Bool) → Moment → Bool
consults g m marked x = list_any marked (cells_of_moment g m x)
