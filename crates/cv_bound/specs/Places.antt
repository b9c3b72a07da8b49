-- The term into which a collision is merged. This profile's own.
use Rattle.std.specs.Prelude.{ℕ, zero, suc, ◌+◌, Bool, false, List, [], ◌∷◌}
use Rattle.cv_bound.specs.declared.cost.Collision.{Collision}
use Rattle.cv_bound.specs.declared.terms.Term.{Term}
use Rattle.cv_bound.specs.declared.terms.Term.TheVariants as term
use Rattle.cv_bound.specs.Sums.{are_alike}

-- a term that is a collision like this one
abbrev pub is_like : Collision → Term → Bool
is_like c (term.Collision d) = are_alike d c
is_like c _ = false

-- a term with more in its coefficient
abbrev pub grown : ℕ → Term → Term
grown n (term.Collision d) = term.Collision (record d { times = d.times + n })
grown n t = t

-- the terms with more in the coefficient at a place
abbrev pub terms_grown : List Term → ℕ → ℕ → List Term
terms_grown [] k n = []
terms_grown (t ∷ ts) zero n = grown n t ∷ ts
terms_grown (t ∷ ts) (suc k) n = t ∷ terms_grown ts k n
