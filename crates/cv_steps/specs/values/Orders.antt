-- The order of the terms of a sum, and which of them are alike. This profile's own.
use Rattle.std.specs.Prelude.{Bool, false}
use Rattle.cv_bound.specs.declared.terms.Term.{Term}
use Rattle.cv_bound.specs.declared.terms.Term.TheVariants as term
use Rattle.cv_bound.specs.Sums.{are_alike}

-- a term without its coefficient
abbrev pub bare : Term → Term
bare (term.Collision c) = term.Collision (record c { times = 0 })
bare t = t

-- collisions that differ at most in their coefficient; no advantage is like another one
abbrev pub are_like_terms : Term → Term → Bool
are_like_terms (term.Collision c) (term.Collision d) = are_alike c d
are_like_terms _ _ = false
