-- Counts of faults and of calls.
use Rattle.std.specs.Prelude.{ℕ, ◌+◌, ◌-◌, ◌^◌, ◌≤◌, min}

-- the count after one more, which stops at the greatest u64
abbrev pub next_count : ℕ → ℕ
next_count count = min (count + 1) (2 ^ 64 - 1)

-- A count rose, or stands at its end.
abbrev pub Rose : ℕ → ℕ → Type 0
Rose before now = next_count before ≤ now

-- no fault came
abbrev pub NoFault : ℕ → ℕ → Type 0
NoFault before now = Rose before now → ⊥
