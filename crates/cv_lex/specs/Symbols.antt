-- The longest symbol, by its first three bytes.
use Rattle.std.specs.Prelude.{ℕ, Bool, ◌==◌, ◌&&◌, ◌||◌, if◌then◌else◌}

-- the length of the longest of '=', '=>' and '==>', by the bytes behind the first
abbrev pub equals_len : (second third : ℕ) → ℕ
equals_len b c = if (b == 61) && (c == 62) then 3 else (if b == 62 then 2 else 1)

-- a symbol that begins no longer one
abbrev pub is_single : ℕ → Bool
is_single a =
    (a == 40) || ((a == 41) || ((a == 91) || ((a == 93) || ((a == 123) || ((a == 125) || ((a == 44) || ((a == 59) || ((a == 46) || ((a == 33) || ((a == 64) || (a == 39)))))))))))

-- the length of the longest of '<>', '<=' and '<-', or 0, by the byte behind the first
abbrev pub less_len : ℕ → ℕ
less_len b = if b == 62 then 2 else (if b == 61 then 2 else (if b == 45 then 2 else 0))

-- the length of the longest symbol, or 0
abbrev pub symbol_len : (first second third : ℕ) → ℕ
symbol_len a b c =
    if a == 61 then equals_len b c
    else (if a == 124 then (if b == 124 then 2 else 1)
    else (if a == 60 then less_len b
    else (if a == 45 then (if b == 62 then 2 else 0)
    else (if a == 38 then (if b == 38 then 2 else 0)
    else (if a == 58 then (if b == 61 then 2 else 1)
    else (if is_single a then 1 else 0))))))
