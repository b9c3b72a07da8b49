-- What each construct keeps, from the beginning of a service to its end. This profile's own.
use Rattle.std.specs.Prelude.{◌≡◌, ℕ, true, List, []}
use Rattle.std.specs.List.{AllByRecursion}
use Rattle.cv_syntax_trees.specs.Tree.{Tree}
use Rattle.cv_meaning.specs.Tapes.{Tape}
use Rattle.cv_meaning.specs.Interpretation.{Setting}
use Rattle.cv_meaning.specs.Memory.{Memory, Local, no_memory}
use Rattle.cv_meaning.specs.Binders.{fits}
use Rattle.cv_meaning.specs.Inputs.{Input, inputs_of, message_binders}
use Rattle.cv_meaning.specs.Serving.{Turn, Ends, First, Second, Visit}
use Rattle.cv_meaning_chances.specs.alignment.Points.{Point, at_input, into_first, into_second, turn_at}

-- a turn goes on to a point that has it, or ends in a memory and opens inputs that have it
abbrev pub Keeps : (Memory → Type 0) → (Input → Type 0) → (Point → Local → Type 0) → Point → Turn → Type 0
Keeps M I P p (Ends r) = M r.last.memory × AllByRecursion I r.opened
Keeps M I P p (First k vs n) = P (into_first p k vs) n
Keeps M I P p (Second k vs n) = P (into_second p k vs) n

-- A run begins with it, so does each service of an input whose message fits, and each construct keeps it.
pub record IsKept (M : Memory → Type 0) (I : Input → Type 0) (P : Point → Local → Type 0) (g : Setting) (t : Tape) (game : Tree) : Type 0 where
  pub memory : M no_memory
  pub inputs : AllByRecursion I (inputs_of g game 0 [])
  pub begun : (i : Input) (m : Memory) (vs : List ℕ) → I i → M m → fits g.interpretation.type_size (message_binders i) vs ≡ true → P (at_input i vs) (record { indices = i.indices; memory = m })
  pub goes : (p : Point) (s : Local) → P p s → Keeps M I P p (turn_at g t p s)

-- the visit has it, with some body's number and values in hand
abbrev pub HasIt : (Point → Local → Type 0) → Visit → Type 0
HasIt P v = (k : ℕ) × (vs : List ℕ) × P (record { tree = v.tree; place = v.place; number = k; bound = vs }) v.before
