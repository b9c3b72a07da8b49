-- Sums that are worked through. This profile's own.
use Rattle.std.specs.Prelude.{ℕ, false, true, List, [], ◌∷◌, codes}
use Rattle.cv_pool.specs.declared.names.names.NameId.{NameId}
use Rattle.cv_meaning.specs.Interpretation.{Interpretation}
use Rattle.cv_bound.specs.declared.cost.Collision.{Collision}

abbrev pub names : List (List ℕ)
names = codes "uf" ∷ codes "NB" ∷ codes "message" ∷ []

abbrev pub name : ℕ → NameId
name n = record { 0 = n }

-- NB^2/(2|message|), the chance that two of NB messages are equal
abbrev pub birthday : Collision
birthday = record { times = 1; factors = (name 1, 2) ∷ []; half = true; over = name 2 }

-- so many times one in the number of messages
abbrev pub guesses : ℕ → Collision
guesses n = record { times = n; factors = []; half = false; over = name 2 }

-- each parameter has the value 2, and each type two values
abbrev pub twos : Interpretation
twos = record { type_size = λ _. 2; parameter_value = λ _. 2; table = λ _ _. 0; choices = 2 }
