-- Sums of chances, and chances with other numbers. This profile's own.
use Rattle.std.specs.Prelude.{ℕ, ◌+◌, ◌-◌, ◌*◌, ◌<◌, List, [], ◌∷◌}
use Rattle.cv_meaning.specs.Chances.{Chance, zero_chance}

-- there is a tape, so that the fraction has a value
abbrev pub HasTapes : Chance → Type 0
HasTapes p = 0 < p.all

-- the sum of two chances
abbrev pub plus : Chance → Chance → Chance
plus p q = record { good = p.good * q.all + q.good * p.all; all = p.all * q.all }

-- the sum of the chances of a list
abbrev pub sum_of : List Chance → Chance
sum_of [] = zero_chance
sum_of (p ∷ ps) = plus p (sum_of ps)

-- so many times the chance
abbrev pub times : ℕ → Chance → Chance
times n p = record { good = n * p.good; all = p.all }

-- the same fraction, of more tapes
abbrev pub scaled : ℕ → Chance → Chance
scaled n p = record { good = n * p.good; all = n * p.all }

-- one in so many
abbrev pub one_of : ℕ → Chance
one_of n = record { good = 1; all = n }

-- n (n - 1) / (2 size), the bound for two equal cells of n
abbrev pub birthday_bound : ℕ → ℕ → Chance
birthday_bound n size = record { good = n * (n - 1); all = 2 * size }
