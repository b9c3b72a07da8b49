-- Chances, as pairs of counts. This profile's own.
use Rattle.std.specs.Prelude.{◌≡◌, ℕ, ◌+◌, ◌-◌, ◌*◌, ◌≤◌, Bool, List}
use Rattle.cv_meaning.specs.Tapes.{Cell, Tape, blank, count, total}

-- on how many tapes a test holds, and how many there are
pub record Chance : Type 0 where
  pub good : ℕ
  pub all : ℕ

-- the chance of a test, over the tapes of these cells
abbrev pub chance : List (Cell × ℕ) → (Tape → Bool) → Chance
chance cs holds = record { good = count cs holds blank; all = total cs }

abbrev pub zero_chance : Chance
zero_chance = record { good = 0; all = 1 }

-- it is at most one
abbrev pub IsFraction : Chance → Type 0
IsFraction p = p.good ≤ p.all

abbrev pub Same : Chance → Chance → Type 0
Same p q = p.good * q.all ≡ q.good * p.all

abbrev pub AtMost : Chance → Chance → Type 0
AtMost p q = p.good * q.all ≤ q.good * p.all

-- how far two chances are apart
abbrev pub distance : Chance → Chance → Chance
distance p q = record { good = (p.good * q.all - q.good * p.all) + (q.good * p.all - p.good * q.all); all = p.all * q.all }
