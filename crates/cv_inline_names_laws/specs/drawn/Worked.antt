-- A worked context with its drawn names: one sender and one receiver, as in the next games.
use Rattle.std.specs.Prelude.{ℕ, ◌==◌, ◌||◌, if◌then◌else◌, List, [], ◌∷◌}
use Rattle.cv_meaning.specs.contexts.Roles.{Role, Plain, Replication, Gone}

abbrev pub drawn_numbers : List ℕ
drawn_numbers = 71 ∷ 72 ∷ 73 ∷ 74 ∷ 75 ∷ []

-- the key and the answers are gone in the next game, and 51 and 53 are indices of replications
abbrev pub role_there : ℕ → Role
role_there y = if (y == 50) || (y == 60) || (y == 61) then Gone else if (y == 51) || (y == 53) then Replication else Plain

abbrev pub answer_there : ℕ → ℕ
answer_there s = if s == 0 then 60 else 61

-- 55 is a tag, the other variables are messages
abbrev pub type_there : ℕ → ℕ
type_there y = if y == 55 then 3 else 1
