-- Two games that are served construct by construct, where one of them may go on alone. This profile's own.
use Rattle.std.specs.Prelude.{◌≡◌, ℕ, true, List}
use Rattle.std.specs.List.{AllByRecursion}
use Rattle.cv_meaning.specs.Tapes.{Tape}
use Rattle.cv_meaning.specs.Interpretation.{Setting}
use Rattle.cv_meaning.specs.Memory.{Memory, Local, tuple}
use Rattle.cv_meaning.specs.Binders.{fits}
use Rattle.cv_meaning.specs.Inputs.{Input, message_binders}
use Rattle.cv_meaning.specs.Serving.{Served, Turn, Ends, First, Second, Visit}
use Rattle.cv_meaning.specs.Runs.{Mode, State, begun, told}
use Rattle.cv_meaning_runs.specs.Simulation.{AreServedAlike, AreAlike}
use Rattle.cv_meaning_chances.specs.alignment.Points.{Point, at_input, into_first, into_second, turn_at, visits_at}

-- states in which two services are at points from which they go on alike
abbrev pub Alike : Type 1
Alike = Point → Point → Local → Local → Type 0

-- from two points both services go one construct further, or one of them does
pub data GoesOn (K : Memory → Memory → Type 0) (L : Input → Input → Type 0) (A : Point → Point → Local → Local → Type 0) (p q : Point) (r : Local) : Turn → Turn → Local → Type 0 where
  both_end : {x y : Served} {s : Local} → AreServedAlike K L x y → GoesOn K L A p q r (Ends x) (Ends y) s
  both_first : {k j : ℕ} {vs ws : List ℕ} {n m s : Local} → A (into_first p k vs) (into_first q j ws) n m → GoesOn K L A p q r (First k vs n) (First j ws m) s
  both_second : {k j : ℕ} {vs ws : List ℕ} {n m s : Local} → A (into_second p k vs) (into_second q j ws) n m → GoesOn K L A p q r (Second k vs n) (Second j ws m) s
  left_first : {k : ℕ} {vs : List ℕ} {n s : Local} {y : Turn} → A (into_first p k vs) q n s → GoesOn K L A p q r (First k vs n) y s
  left_second : {k : ℕ} {vs : List ℕ} {n s : Local} {y : Turn} → A (into_second p k vs) q n s → GoesOn K L A p q r (Second k vs n) y s
  right_first : {j : ℕ} {ws : List ℕ} {m s : Local} {x : Turn} → A p (into_first q j ws) r m → GoesOn K L A p q r x (First j ws m) s
  right_second : {j : ℕ} {ws : List ℕ} {m s : Local} {x : Turn} → A p (into_second q j ws) r m → GoesOn K L A p q r x (Second j ws m) s

-- points that are alike go on to points that are alike, where the visits of the first service are as expected
abbrev pub IsAligned : (Memory → Memory → Type 0) → (Input → Input → Type 0) → (Point → Point → Local → Local → Type 0) → (Visit → Type 0) → Setting → Setting → Tape → Tape → Type 0
IsAligned K L A V g h t u =
    (p q : Point) (r s : Local) → A p q r s → AllByRecursion V (visits_at g t p r) → GoesOn K L A p q r (turn_at g t p r) (turn_at h u q s) s

-- inputs that are alike answer to the same calls, and are served from points that are alike
pub record AreBegun (K : Memory → Memory → Type 0) (L : Input → Input → Type 0) (A : Point → Point → Local → Local → Type 0) (g h : Setting) (m n : Mode) (t u : Tape) : Type 0 where
  pub channel : (i j : Input) → L i j → i.channel ≡ j.channel
  pub tuple : (i j : Input) → L i j → tuple i.indices ≡ tuple j.indices
  pub message : (i j : Input) → L i j → (vs : List ℕ) → fits g.interpretation.type_size (message_binders i) vs ≡ fits h.interpretation.type_size (message_binders j) vs
  pub told : (x y : State) → AreAlike K L x y → (w : List ℕ) → told m t x w ≡ told n u y w
  pub served : (x y : State) → K x.memory y.memory → (i j : Input) → L i j → (vs : List ℕ) → fits g.interpretation.type_size (message_binders i) vs ≡ true → A (at_input i vs) (at_input j vs) (begun x i) (begun y j)
