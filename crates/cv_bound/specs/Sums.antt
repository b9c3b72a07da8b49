-- Sums of the costs of steps. Bounds of this form are those of Blanchet, TDSC 2008; that equal terms are
-- added, and the order of the terms, is this profile's own.
use Rattle.std.specs.Prelude.{ℕ, ◌+◌, ◌<◌, ◌^◌, Bool, true, false, ◌&&◌, ◌==◌, if◌then◌else◌, List, [], ◌∷◌, ◌++◌, Option, Some, None}
use Rattle.std.specs.List.{AllByRecursion, flat_map}
use Rattle.std.specs.Bool.{beq}
use Rattle.cv_pool.specs.declared.names.names.NameId.{NameId}
use Rattle.cv_bound.specs.declared.cost.Collision.{Collision}
use Rattle.cv_bound.specs.declared.cost.Cost.{Cost}
use Rattle.cv_bound.specs.declared.cost.Cost.TheVariants as cost
use Rattle.cv_bound.specs.declared.terms.Experiment.TheVariants.{Events, Real, Random}
use Rattle.cv_bound.specs.declared.terms.Term.{Term}
use Rattle.cv_bound.specs.declared.terms.Term.TheVariants as term

-- the same parameters with the same exponents, in the same order
abbrev pub same_factors : List (NameId × ℕ) → List (NameId × ℕ) → Bool
same_factors [] [] = true
same_factors (f ∷ fs) (g ∷ gs) = (f.0.0 == g.0.0) && ((f.1 == g.1) && same_factors fs gs)
same_factors _ _ = false

-- collisions that differ at most in their coefficient
abbrev pub are_alike : Collision → Collision → Bool
are_alike c d = (c.over.0 == d.over.0) && (beq c.half d.half && same_factors c.factors d.factors)

-- a collision is merged into the first one that is like it, or put at the end
unfoldable pub merged : List Term → Collision → List Term
merged [] c = term.Collision c ∷ []
merged (term.Collision d ∷ ts) c = if are_alike d c then term.Collision (record d { times = d.times + c.times }) ∷ ts else term.Collision d ∷ merged ts c
merged (t ∷ ts) c = t ∷ merged ts c

-- one term more; an advantage is never merged
abbrev pub with_term : List Term → Term → List Term
with_term ts (term.Collision c) = merged ts c
with_term ts t = ts ++ t ∷ []

unfoldable pub with_terms : List Term → List Term → List Term
with_terms ts [] = ts
with_terms ts (u ∷ us) = with_terms (with_term ts u) us

-- a collision counts once, and for secrecy twice
abbrev pub counted : Bool → Collision → List Term
counted false c = term.Collision c ∷ []
counted true c = term.Collision c ∷ term.Collision c ∷ []

-- the terms of a cost: for secrecy an advantage stands once for the real and once for the random experiment
abbrev pub terms_of : Cost → Bool → List Term
terms_of cost.Zero secrecy = []
terms_of (cost.Collisions cs) secrecy = flat_map (counted secrecy) cs
terms_of (cost.Advantage step equiv) false = term.Advantage step equiv Events ∷ []
terms_of (cost.Advantage step equiv) true = term.Advantage step equiv Real ∷ term.Advantage step equiv Random ∷ []

-- a sum with a cost more
abbrev pub added : List Term → Cost → Bool → List Term
added ts c secrecy = with_terms ts (terms_of c secrecy)

-- the coefficient of a collision has at most 64 bits
abbrev pub Fits : Term → Type 0
Fits (term.Collision c) = c.times < 2 ^ 64
Fits _ = Unit {0}

abbrev pub AllFit : List Term → Type 0
AllFit ts = AllByRecursion Fits ts

-- the collision of a term
abbrev pub collision_of : Term → Option Collision
collision_of (term.Collision c) = Some c
collision_of _ = None

abbrev pub coefficient : Term → ℕ
coefficient (term.Collision c) = c.times
coefficient _ = 0

-- all coefficients together
abbrev pub coefficients : List Term → ℕ
coefficients [] = 0
coefficients (t ∷ ts) = coefficient t + coefficients ts
