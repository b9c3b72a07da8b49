-- What a run remembers: the values of variables, the events, and the arrays of a side.
-- Blanchet, TDSC 2008, section 2, for the arrays of variables; Blanchet, CSF 2007, for events.
use Rattle.std.specs.Prelude.{ℕ, ◌&&◌, ◌==◌, if◌then◌else◌, List, [], ◌∷◌, ◌++◌, map, Option, Some, None}
use Rattle.cv_meaning.specs.Tapes.{same_tuple}
use Rattle.cv_meaning.specs.Side.{Arrays, OracleAnswer}

-- the values of variables, by name and index tuple
abbrev pub Store : Type 0
Store = ℕ → List ℕ → Option ℕ

-- a store that has assigned nothing
abbrev pub nowhere : Store
nowhere x u = None

unfoldable pub put : Store → ℕ → List ℕ → ℕ → Store
put m x u v y w = if (y == x) && same_tuple w u then Some v else m y w

-- an event that was executed
pub record Happened : Type 0 where
  pub event : ℕ
  pub values : List ℕ

pub record Memory : Type 0 where
  pub store : Store
  pub events : List Happened  -- the newest last
  pub arrays : Arrays

abbrev pub no_memory : Memory
no_memory = record { store = nowhere; events = []; arrays = λ x u number. None }

-- the current replication indices with their values, outermost first
abbrev pub Indices : Type 0
Indices = List (ℕ × ℕ)

abbrev pub tuple : Indices → List ℕ
tuple at = map (λ p. p.1) at

-- the state while an input is served
pub record Local : Type 0 where
  pub indices : Indices
  pub memory : Memory

abbrev pub with_store : Local → Store → Local
with_store s m = record s { memory = record s.memory { store = m } }

-- a variable assigned at the current indices
abbrev pub with_value : Local → ℕ → ℕ → Local
with_value s x v = with_store s (put s.memory.store x (tuple s.indices) v)

abbrev pub with_event : Local → ℕ → List ℕ → Local
with_event s e vs = record s { memory = record s.memory { events = s.memory.events ++ (record { event = e; values = vs }) ∷ [] } }

abbrev pub with_answer : Local → ℕ → OracleAnswer → Local
with_answer s x r = record s { memory = record s.memory { store = put s.memory.store x (tuple s.indices) r.value; arrays = r.arrays } }
