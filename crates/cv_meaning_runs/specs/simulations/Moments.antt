-- Two runs whose moments stay related. This profile's own.
use Rattle.std.specs.Prelude.{◌≡◌, ℕ, true, List, [], ◌∷◌}
use Rattle.std.specs.List.{AllByRecursion}
use Rattle.cv_syntax_trees.specs.Tree.{Tree}
use Rattle.cv_meaning.specs.Tapes.{Tape, cells_of}
use Rattle.cv_meaning.specs.Interpretation.{Setting}
use Rattle.cv_meaning.specs.Memory.{Memory, no_memory, tuple}
use Rattle.cv_meaning.specs.Binders.{fits}
use Rattle.cv_meaning.specs.Inputs.{Input, inputs_of, message_binders}
use Rattle.cv_meaning.specs.Serving.{Visit, visits}
use Rattle.cv_meaning.specs.Runs.{Mode, Adversary, State, serve_input, begun, told}
use Rattle.cv_meaning.specs.Cells.{coin_cells}
use Rattle.cv_meaning_runs.specs.Agreement.{AgreeAt}
use Rattle.cv_meaning_runs.specs.Moments.{Moment, Visited, Tested, moments_of_run}
use Rattle.cv_meaning_runs.specs.Simulation.{InOrder, AreServedAlike, AreAlike}

-- related visits, or tests of one tuple in states that are alike
abbrev pub AreMomentsAlike : (Memory → Memory → Type 0) → (Input → Input → Type 0) → (Visit → Visit → Type 0) → Moment → Moment → Type 0
AreMomentsAlike Memories Inputs Visits (Visited v) (Visited w) = Visits v w
AreMomentsAlike Memories Inputs Visits (Tested u x) (Tested w y) = (u ≡ w) × AreAlike Memories Inputs x y
AreMomentsAlike Memories Inputs Visits _ _ = ⊥

-- the tests among moments
abbrev pub tests_among : List Moment → List Moment
tests_among [] = []
tests_among (Visited v ∷ moments) = tests_among moments
tests_among (Tested u st ∷ moments) = Tested u st ∷ tests_among moments

-- the visits are as expected of moments
abbrev pub AreExpected : (Moment → Type 0) → List Visit → Type 0
AreExpected Expected vs = AllByRecursion (λ v. Expected (Visited v)) vs

-- what is expected of visits alone
abbrev pub OfVisits : (Visit → Type 0) → Moment → Type 0
OfVisits Expected (Visited v) = Expected v
OfVisits Expected (Tested u st) = Unit {0}

-- related inputs take the same messages, and are served alike where the visits of the first service
-- are as expected; tests that are as expected tell the same
pub record IsMomentSimulation (Memories : Memory → Memory → Type 0) (Inputs : Input → Input → Type 0) (Expected : Moment → Type 0) (g h : Setting) (m n : Mode) (t u : Tape) : Type 0 where
  pub channel : (i j : Input) → Inputs i j → i.channel ≡ j.channel
  pub tuple : (i j : Input) → Inputs i j → tuple i.indices ≡ tuple j.indices
  pub message : (i j : Input) → Inputs i j → (vs : List ℕ) → fits g.interpretation.type_size (message_binders i) vs ≡ fits h.interpretation.type_size (message_binders j) vs
  pub told : (x y : State) → AreAlike Memories Inputs x y → (w : List ℕ) → Expected (Tested w x) → told m t x w ≡ told n u y w
  pub served :
      (x y : State) → AreAlike Memories Inputs x y → (i j : Input) → Inputs i j → (vs : List ℕ) → fits g.interpretation.type_size (message_binders i) vs ≡ true
      → AreExpected Expected (visits g t i.tree i.place 0 vs (begun x i)) → AreServedAlike Memories Inputs (serve_input g t x i vs) (serve_input h u y j vs)

-- the same, of two games whose runs begin alike and whose coins are equal
pub record IsMomentGameSimulation (Memories : Memory → Memory → Type 0) (Inputs : Input → Input → Type 0) (Expected : Moment → Type 0) (a : Adversary) (g h : Setting) (m n : Mode) (x y : Tree) (t u : Tape) : Type 0 where
  pub steps : IsMomentSimulation Memories Inputs Expected g h m n t u
  pub memory : Memories no_memory no_memory
  pub begun : InOrder Inputs (inputs_of g x 0 []) (inputs_of h y 0 [])
  pub moments : AllByRecursion Expected (moments_of_run g m a x t)
  pub coins : AgreeAt (cells_of (coin_cells 0 a.coins)) t u

-- where the visits of the first service are as expected, those of related inputs are related in order
abbrev pub AreVisitedAlike : (Memory → Memory → Type 0) → (Input → Input → Type 0) → (Visit → Visit → Type 0) → (Moment → Type 0) → Setting → Setting → Tape → Tape → Type 0
AreVisitedAlike Memories Inputs Visits Expected g h t u =
    (x y : State) → AreAlike Memories Inputs x y → (i j : Input) → Inputs i j → (vs : List ℕ) → fits g.interpretation.type_size (message_binders i) vs ≡ true
    → AreExpected Expected (visits g t i.tree i.place 0 vs (begun x i)) → InOrder Visits (visits g t i.tree i.place 0 vs (begun x i)) (visits h u j.tree j.place 0 vs (begun y j))

-- the relation of things to themselves
abbrev pub AreEqual : {A : Type 0} → A → A → Type 0
AreEqual x y = x ≡ y

-- a test tells the same in two modes
abbrev pub TellsTheSame : Mode → Mode → Tape → Moment → Type 0
TellsTheSame m n t (Visited v) = Unit {0}
TellsTheSame m n t (Tested u st) = told m t st u ≡ told n t st u
