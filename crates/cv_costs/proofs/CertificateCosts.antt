-- The variables whose values a certificate takes to differ, and what they cost.
use Rattle.std.proofs.Common.{◌≡◌, ℕ, ◌+◌, ◌≤◌, false, true, List, [], ◌∷◌, ◌++◌, length, Option, Some, None, sym, ap, ◌∙◌, arith, append-nil, length-append}
use Rattle.std.proofs.lemmas.List.Sums.{sum_by-append}
use Rattle.std.specs.Prelude.{option_map, sum_by}
use Rattle.cv_syntax_trees.specs.declared.head.Head.{Head}
use Rattle.cv_syntax_trees.specs.declared.head.Head.TheVariants.{DistinctPart, EventsCertificate, Name}
use Rattle.cv_syntax_trees.specs.Declarations.{Declaration}
use Rattle.cv_syntax_trees.specs.Tree.{Tree, Empty, Node}
use Rattle.cv_syntax.specs.declared.make.Make.TheVariants as make
use Rattle.cv_syntax.specs.Postorder.{postorder}
use Rattle.cv_syntax.specs.limits.Limits.{nodes_of}
use Rattle.cv_syntax.proofs.listing.Lists.{overs_append}
use Rattle.cv_syntax_trees.specs.declared.sites.sort.Sort.{Sort}
use Rattle.cv_syntax_trees.specs.sites.Sites.{Variable, first_site}
use Rattle.cv_bound.specs.declared.cost.Collision.{Collision}
use Rattle.cv_bound.specs.Sums.{coefficients, terms_of}
use Rattle.cv_scene.specs.Scenes.{Scene}
use Rattle.cv_query_certificates.specs.PairParts.{names_in}
use Rattle.cv_steps.specs.Costs.{cost_of}
use Rattle.cv_steps.proofs.values.Coefficients.{counted_once}
use Rattle.cv_costs.specs.Certificates.{collision_for, collisions_for, cost_for, cost_of_certificate, distinct_among, distinct_of}
use Rattle.cv_costs.specs.Collisions.{collision_of, type_of}
use Rattle.cv_costs.specs.Copies.{parameters_by}

-- the names of a list, where no more follow
pub names_end : (t : Tree) (made all : List ℕ) → names_in t ≡ [] → made ++ names_in t ≡ all → made ≡ all
names_end t made all e f = sym (append-nil made) ∙ (ap (λ l. made ++ l) (sym e) ∙ f)

-- each has at most one collision

pub priced : (ds : List Declaration) (o : Option Variable) (S : Sort) (ps : List ℕ) (T : ℕ) (c : Collision) → Some S ≡ option_map (λ (v : Variable). v.sort) o → ps ≡ parameters_by o → T ≡ type_of S → c ≡ collision_of ds (ps ++ ps) true T → c ∷ [] ≡ collision_for ds o
priced ds None S ps T c e f g h = absurd (cc)
priced ds (Some v) S ps T c e f g h =
    let sort : S ≡ v.sort = cc in
    ap (λ d. d ∷ []) (h ∙ (ap (λ ns. collision_of ds (ns ++ ns) true T) f ∙ ap (collision_of ds (v.parameters ++ v.parameters) true) (g ∙ ap type_of sort)))

at_most_one : (ds : List Declaration) (o : Option Variable) → length (collision_for ds o) ≤ 1
at_most_one ds None = omega arith
at_most_one ds (Some v) = omega arith

pub at_most_each : (s : Scene) (xs : List ℕ) → length (collisions_for s xs) ≤ length xs
at_most_each s [] = omega arith
at_most_each s (x ∷ xs) =
    let o = first_site x [] s.game in
    omega (arith, length-append (collision_for s.declarations o) (collisions_for s xs), at_most_one s.declarations o, at_most_each s xs)

-- they are no more than the nodes of the certificate

nodes_node : (h : Head) (a b : Tree) → nodes_of (Node h a b) ≡ nodes_of a + nodes_of b + 1
unfolding postorder
nodes_node h a b = omega (arith, overs_append (postorder a) (postorder b ++ make.Over h ∷ []), overs_append (postorder b) (make.Over h ∷ []))

few_names : (t : Tree) → length (names_in t) ≤ nodes_of t
few_names Empty = omega arith
few_names (Node h (Node (Name x) a b) more) = omega (arith, nodes_node h (Node (Name x) a b) more, few_names more)
few_names (Node h part more) = omega arith

few_among : (t : Tree) → length (distinct_among t) ≤ nodes_of t
few_among Empty = omega arith
few_among (Node h (Node DistinctPart names e) more) =
    omega (arith, nodes_node h (Node DistinctPart names e) more, nodes_node DistinctPart names e, few_names names)
few_among (Node h part more) = omega (arith, nodes_node h part more, few_among more)

pub few_distinct : (t : Tree) → length (distinct_of t) ≤ nodes_of t
few_distinct Empty = omega arith
few_distinct (Node EventsCertificate parts e) = omega (arith, nodes_node EventsCertificate parts e, few_among parts)
few_distinct (Node h a b) = omega arith

-- nor are their coefficients, each of which is one

each_once : (ds : List Declaration) (o : Option Variable) → sum_by (λ (c : Collision). c.times) (collision_for ds o) ≤ 1
each_once ds None = omega arith
each_once ds (Some v) = omega arith

times_few : (s : Scene) (xs : List ℕ) → sum_by (λ (c : Collision). c.times) (collisions_for s xs) ≤ length xs
times_few s [] = omega arith
times_few s (x ∷ xs) =
    let o = first_site x [] s.game in
    omega (
      arith,
      sum_by-append (λ (c : Collision). c.times) (collision_for s.declarations o) (collisions_for s xs),
      each_once s.declarations o,
      times_few s xs,
    )

coefficients_for : (s : Scene) (xs : List ℕ) → coefficients (terms_of (cost_of (cost_for s xs)) false) ≤ length xs
coefficients_for s [] = omega arith
coefficients_for s (x ∷ xs) = omega (arith, counted_once (collisions_for s (x ∷ xs)), times_few s (x ∷ xs))

pub coefficients_few : (s : Scene) (t : Tree) → coefficients (terms_of (cost_of (cost_of_certificate s t)) false) ≤ nodes_of t
coefficients_few s Empty = omega arith
coefficients_few s (Node EventsCertificate parts e) =
    omega (arith, coefficients_for s (distinct_among parts), few_distinct (Node EventsCertificate parts e))
coefficients_few s (Node h a b) = omega arith
