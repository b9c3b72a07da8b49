-- The line and the column at which a text ends, both counted from 1.
use Rattle.std.specs.Prelude.{ℕ, ◌+◌, ◌==◌, List, [], ◌∷◌, if◌then◌else◌}

-- one more than the line feeds
abbrev pub line_from : ℕ → List ℕ → ℕ
line_from line [] = line
line_from line (b ∷ bs) = line_from (if b == 10 then line + 1 else line) bs

abbrev pub line_behind : List ℕ → ℕ
line_behind = line_from 1

-- one more than the bytes behind the last line feed
abbrev pub column_from : ℕ → List ℕ → ℕ
column_from column [] = column
column_from column (b ∷ bs) = column_from (if b == 10 then 1 else column + 1) bs

abbrev pub column_behind : List ℕ → ℕ
column_behind = column_from 1
