-- What a certificate costs: of each array whose values are taken to differ, the chance that two of them are equal. Each has a term of its
-- own, in the order of the certificate; a sum adds equal ones. This profile's own.
use Rattle.std.specs.Prelude.{ℕ, true, List, [], ◌∷◌, ◌++◌, Option, Some, None}
use Rattle.std.specs.List.{flat_map}
use Rattle.cv_syntax_trees.specs.declared.head.Head.TheVariants.{DistinctPart, EventsCertificate}
use Rattle.cv_syntax_trees.specs.Declarations.{Declaration}
use Rattle.cv_syntax_trees.specs.Tree.{Tree, Empty, Node}
use Rattle.cv_syntax_trees.specs.sites.Sites.{Variable, first_site}
use Rattle.cv_bound.specs.declared.cost.Collision.{Collision}
use Rattle.cv_scene.specs.Scenes.{Scene}
use Rattle.cv_steps.specs.Steps.{Collisions, Cost, Zero}
use Rattle.cv_query_certificates.specs.PairParts.{names_in}
use Rattle.cv_costs.specs.Collisions.{collision_of, type_of}

-- the first list of such variables among the parts
abbrev pub distinct_among : (parts : Tree) → List ℕ
distinct_among Empty = []
distinct_among (Node h (Node DistinctPart names e) more) = names_in names
distinct_among (Node h part more) = distinct_among more

-- those of a certificate
abbrev pub distinct_of : (certificate : Tree) → List ℕ
distinct_of (Node EventsCertificate parts e) = distinct_among parts
distinct_of certificate = []

-- by the first definition of the variable
abbrev pub collision_for : List Declaration → Option Variable → List Collision
collision_for ds None = []
collision_for ds (Some v) = collision_of ds (v.parameters ++ v.parameters) true (type_of v.sort) ∷ []

abbrev pub collisions_for : Scene → (names : List ℕ) → List Collision
collisions_for s xs = flat_map (λ x. collision_for s.declarations (first_site x [] s.game)) xs

abbrev pub cost_for : Scene → (names : List ℕ) → Cost
cost_for s [] = Zero
cost_for s (x ∷ xs) = Collisions (collisions_for s (x ∷ xs))

abbrev pub cost_of_certificate : Scene → (certificate : Tree) → Cost
cost_of_certificate s (Node EventsCertificate parts e) = cost_for s (distinct_among parts)
cost_of_certificate s certificate = Zero
