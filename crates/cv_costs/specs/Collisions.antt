-- Costs of collisions: with one value of a type for each copy below replications, and of two values for each pair of copies. Blanchet,
-- TDSC 2008.
use Rattle.std.specs.Prelude.{ℕ, Bool, false, true, List, [], ◌∷◌, ◌++◌}
use Rattle.std.specs.List.{flat_map}
use Rattle.cv_syntax_trees.specs.declared.class.Class.TheVariants as class
use Rattle.cv_syntax_trees.specs.Declarations.{Declaration, Named}
use Rattle.cv_syntax_trees.specs.declared.sites.sort.Sort.{Sort}
use Rattle.cv_syntax_trees.specs.declared.sites.sort.Sort.TheVariants.{BelowParameter, OfType}
use Rattle.cv_bound.specs.declared.cost.Collision.{Collision}
use Rattle.cv_steps.specs.Steps.{Collisions, Cost}
use Rattle.cv_costs.specs.Factors.{factors_of}

-- the type of a variable's values
abbrev pub type_of : Sort → ℕ
type_of (OfType T) = T
type_of (BelowParameter n) = n

-- the parameter that a declaration declares
abbrev pub parameter_of : Declaration → List ℕ
parameter_of (Named x class.Param arguments result) = x ∷ []
parameter_of d = []

-- those of a file, in order
abbrev pub declared_parameters : List Declaration → List ℕ
declared_parameters ds = flat_map parameter_of ds

-- the chance of one value of a type, or of half of one, for each copy below replications with these parameters
abbrev pub collision_of : List Declaration → (parameters : List ℕ) → (half : Bool) → (type : ℕ) → Collision
collision_of ds ps half T = record { times = 1; factors = factors_of (declared_parameters ds) ps; half = half; over = record { 0 = T } }

-- that of one value
abbrev pub one_for_each : List Declaration → (parameters : List ℕ) → (type : ℕ) → Cost
one_for_each ds ps T = Collisions (collision_of ds ps false T ∷ [])

-- the chance that two values of a type are equal, for each pair of copies
abbrev pub one_for_pairs : List Declaration → (parameters : List ℕ) → (type : ℕ) → Cost
one_for_pairs ds ps T = Collisions (collision_of ds (ps ++ ps) true T ∷ [])
