-- Two runs whose states stay related. This profile's own.
use Rattle.std.specs.Prelude.{◌≡◌, ℕ, true, List, [], ◌∷◌}
use Rattle.std.specs.List.{AllByRecursion}
use Rattle.cv_syntax_trees.specs.Tree.{Tree}
use Rattle.cv_meaning.specs.Tapes.{Tape, cells_of}
use Rattle.cv_meaning.specs.Interpretation.{Setting}
use Rattle.cv_meaning.specs.Memory.{Memory, no_memory, tuple}
use Rattle.cv_meaning.specs.Binders.{fits}
use Rattle.cv_meaning.specs.Inputs.{Input, inputs_of, message_binders}
use Rattle.cv_meaning.specs.Serving.{Served, Visit, visits}
use Rattle.cv_meaning.specs.Runs.{Mode, Adversary, State, serve_input, begun, told}
use Rattle.cv_meaning.specs.Cells.{coin_cells}
use Rattle.cv_meaning.specs.Experiments.{Experiment, holds_in, visits_of_run}
use Rattle.cv_meaning_runs.specs.Agreement.{AgreeAt}

-- lists of one length, with their elements related in order
abbrev pub InOrder : {A B : Type 0} → (A → B → Type 0) → List A → List B → Type 0
InOrder R [] [] = Unit {0}
InOrder R (x ∷ xs) (y ∷ ys) = R x y × InOrder R xs ys
InOrder R _ _ = ⊥

-- related memories have the same events
abbrev pub HaveSameEvents : (Memory → Memory → Type 0) → Type 0
HaveSameEvents Memories = (x y : Memory) → Memories x y → x.events ≡ y.events

-- the services give one reply, related memories, and related inputs
pub record AreServedAlike (Memories : Memory → Memory → Type 0) (Inputs : Input → Input → Type 0) (r s : Served) : Type 0 where
  pub reply : r.reply ≡ s.reply
  pub memory : Memories r.last.memory s.last.memory
  pub opened : InOrder Inputs r.opened s.opened

-- the states show the adversary the same, with related memories and inputs
pub record AreAlike (Memories : Memory → Memory → Type 0) (Inputs : Input → Input → Type 0) (x y : State) : Type 0 where
  pub memory : Memories x.memory y.memory
  pub inputs : InOrder Inputs x.inputs y.inputs
  pub answers : x.answers ≡ y.answers
  pub tested : x.tested ≡ y.tested
  pub guess : x.guess ≡ y.guess

-- related inputs take the same messages, and are served alike where the visits of the first service
-- are as expected; tests tell the same
pub record IsSimulation (Memories : Memory → Memory → Type 0) (Inputs : Input → Input → Type 0) (Expected : Visit → Type 0) (g h : Setting) (m n : Mode) (t u : Tape) : Type 0 where
  pub channel : (i j : Input) → Inputs i j → i.channel ≡ j.channel
  pub tuple : (i j : Input) → Inputs i j → tuple i.indices ≡ tuple j.indices
  pub message : (i j : Input) → Inputs i j → (vs : List ℕ) → fits g.interpretation.type_size (message_binders i) vs ≡ fits h.interpretation.type_size (message_binders j) vs
  pub told : (x y : State) → AreAlike Memories Inputs x y → (w : List ℕ) → told m t x w ≡ told n u y w
  pub served :
      (x y : State) → AreAlike Memories Inputs x y → (i j : Input) → Inputs i j → (vs : List ℕ) → fits g.interpretation.type_size (message_binders i) vs ≡ true
      → AllByRecursion Expected (visits g t i.tree i.place 0 vs (begun x i)) → AreServedAlike Memories Inputs (serve_input g t x i vs) (serve_input h u y j vs)

-- the same, of two games whose runs begin alike and whose coins are equal
pub record IsGameSimulation (Memories : Memory → Memory → Type 0) (Inputs : Input → Input → Type 0) (Expected : Visit → Type 0) (a : Adversary) (g h : Setting) (m n : Mode) (x y : Tree) (t u : Tape) : Type 0 where
  pub steps : IsSimulation Memories Inputs Expected g h m n t u
  pub memory : Memories no_memory no_memory
  pub begun : InOrder Inputs (inputs_of g x 0 []) (inputs_of h y 0 [])
  pub visited : AllByRecursion Expected (visits_of_run g m a x t)
  pub coins : AgreeAt (cells_of (coin_cells 0 a.coins)) t u

-- two experiments hold alike at the ends of runs that are alike
abbrev pub HoldAlike : (Memory → Memory → Type 0) → (Input → Input → Type 0) → Setting → Setting → Experiment → Experiment → Type 0
HoldAlike Memories Inputs g h x y = (r s : State) → AreAlike Memories Inputs r s → holds_in g x r ≡ holds_in h y s
