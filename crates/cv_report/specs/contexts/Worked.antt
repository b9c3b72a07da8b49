-- Contexts whose lines are worked through. This profile's own.
use Rattle.std.specs.Prelude.{ℕ, List, [], ◌∷◌, codes}
use Rattle.cv_context.specs.products.Shapes.{Shape}

abbrev pub names : List (List ℕ)
names = codes "N" ∷ codes "M" ∷ codes "Omac" ∷ codes "Ochk" ∷ codes "k" ∷ []

-- one key; a function without sites, and one with a site below a replication
abbrev pub checks : Shape
checks = record { key = 4; keys = []; calls = (2, []) ∷ (3, (0 ∷ []) ∷ []) ∷ [] }

-- keys below a replication; sites below it and another one, below two with one parameter, and below none
abbrev pub sessions : Shape
sessions = record { key = 4; keys = 0 ∷ []; calls = (2, (0 ∷ 0 ∷ []) ∷ (1 ∷ 0 ∷ []) ∷ []) ∷ (3, (0 ∷ 1 ∷ 0 ∷ []) ∷ [] ∷ []) ∷ [] }
