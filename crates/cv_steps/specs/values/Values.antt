-- The value of sums and of costs, as fractions. Blanchet, TDSC 2008, bounds an advantage by such a sum; that
-- a value is a fraction of counts is this profile's own.
use Rattle.std.specs.Prelude.{ℕ, ◌*◌, ◌^◌, Bool, true, false, List, [], ◌∷◌, map}
use Rattle.cv_pool.specs.declared.names.names.NameId.{NameId}
use Rattle.cv_meaning.specs.Chances.{Chance}
use Rattle.cv_meaning.specs.Interpretation.{Interpretation}
use Rattle.cv_meaning_chances.specs.Fractions.{sum_of}
use Rattle.cv_bound.specs.declared.cost.Collision.{Collision}
use Rattle.cv_bound.specs.declared.cost.Cost.{Cost}
use Rattle.cv_bound.specs.declared.terms.Experiment.{Experiment}
use Rattle.cv_bound.specs.declared.terms.Term.{Term}
use Rattle.cv_bound.specs.declared.terms.Term.TheVariants as term
use Rattle.cv_bound.specs.Sums.{terms_of}

-- the product of the values of parameters, each as often as its exponent says
abbrev pub product_value : Interpretation → List (NameId × ℕ) → ℕ
product_value i [] = 1
product_value i (f ∷ fs) = i.parameter_value f.0.0 ^ f.1 * product_value i fs

-- the size of a type, or twice that size
abbrev pub over_value : Interpretation → Bool → NameId → ℕ
over_value i false T = i.type_size T.0
over_value i true T = 2 * i.type_size T.0

abbrev pub collision_value : Interpretation → Collision → Chance
collision_value i c = record { good = c.times * product_value i c.factors; all = over_value i c.half c.over }

-- the advantages of the contexts of the steps, in each experiment
abbrev pub Advantages : Type 0
Advantages = ℕ → Experiment → Chance

abbrev pub term_value : Interpretation → Advantages → Term → Chance
term_value i advantages (term.Collision c) = collision_value i c
term_value i advantages (term.Advantage step equiv e) = advantages step e

-- the terms' values together; 0 where there are none
abbrev pub sum_value : Interpretation → Advantages → List Term → Chance
sum_value i advantages ts = sum_of (map (term_value i advantages) ts)

-- the value of what a cost adds to a sum
abbrev pub cost_value : Interpretation → Advantages → Cost → Bool → Chance
cost_value i advantages c secrecy = sum_value i advantages (terms_of c secrecy)
