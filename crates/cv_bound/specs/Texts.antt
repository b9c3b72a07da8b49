-- The text of sums and of costs. This profile's own.
use Rattle.std.specs.Prelude.{ℕ, Bool, true, false, ◌==◌, if◌then◌else◌, List, [], ◌∷◌, ◌++◌, codes}
use Rattle.std.specs.List.{flat_map}
use Rattle.std.specs.Fmt.{decimal}
use Rattle.cv_pool.specs.declared.names.names.NameId.{NameId}
use Rattle.cv_print.specs.Terms.{name_text}
use Rattle.cv_bound.specs.declared.cost.Collision.{Collision}
use Rattle.cv_bound.specs.declared.cost.Cost.{Cost}
use Rattle.cv_bound.specs.declared.terms.Experiment.{Experiment}
use Rattle.cv_bound.specs.declared.terms.Experiment.TheVariants.{Events, Real, Random}
use Rattle.cv_bound.specs.declared.terms.Term.{Term}
use Rattle.cv_bound.specs.declared.terms.Term.TheVariants as term
use Rattle.cv_bound.specs.Sums.{added, terms_of}

-- texts with a mark between them
abbrev pub joined_by : {A : Type 0} → List ℕ → (A → List ℕ) → List A → List ℕ
joined_by mark text [] = []
joined_by mark text (x ∷ xs) = text x ++ flat_map (λ y. mark ++ text y) xs

-- a parameter with its exponent, where that isn't 1
abbrev pub power_text : List (List ℕ) → NameId × ℕ → List ℕ
power_text names f = name_text names f.0.0 ++ (if f.1 == 1 then [] else codes "^" ++ decimal f.1)

abbrev pub product_text : List (List ℕ) → List (NameId × ℕ) → List ℕ
product_text names [] = codes "1"
product_text names fs = joined_by (codes "*") (power_text names) fs

-- a coefficient, where it isn't 1
abbrev pub times_text : ℕ → List ℕ
times_text k = if k == 1 then [] else decimal k ++ codes "*"

-- over the size of a type, or over twice that size
abbrev pub over_text : List (List ℕ) → Bool → NameId → List ℕ
over_text names false T = codes "/|" ++ name_text names T.0 ++ codes "|"
over_text names true T = codes "/(2|" ++ name_text names T.0 ++ codes "|)"

abbrev pub collision_text : List (List ℕ) → Collision → List ℕ
collision_text names c = times_text c.times ++ product_text names c.factors ++ over_text names c.half c.over

abbrev pub experiment_text : Experiment → List ℕ
experiment_text Events = []
experiment_text Real = codes ", real"
experiment_text Random = codes ", random"

-- the advantage of the context of a step
abbrev pub advantage_text : List (List ℕ) → ℕ → NameId → Experiment → List ℕ
advantage_text names step equiv e = codes "Adv(" ++ name_text names equiv.0 ++ codes ", C" ++ decimal step ++ experiment_text e ++ codes ")"

abbrev pub term_text : List (List ℕ) → Term → List ℕ
term_text names (term.Collision c) = collision_text names c
term_text names (term.Advantage step equiv e) = advantage_text names step equiv e

abbrev pub sum_text : List (List ℕ) → List Term → List ℕ
sum_text names [] = codes "0"
sum_text names ts = joined_by (codes " + ") (term_text names) ts

-- the text of the sum of a cost alone
abbrev pub cost_text : List (List ℕ) → Cost → List ℕ
cost_text names c = sum_text names (added [] c false)

-- the text of a cost whose terms stand as they are, equal ones too
abbrev pub listed_text : List (List ℕ) → Cost → List ℕ
listed_text names c = sum_text names (terms_of c false)
