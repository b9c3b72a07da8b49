-- The derivations of a certificate have no more lines than it has nodes.
use Rattle.std.proofs.Common.{ℕ, ◌<◌, ◌≤◌, ◌^◌, arith, Option, Some, None}
use Rattle.cv_syntax_trees.specs.declared.head.Head.TheVariants as head
use Rattle.cv_syntax.specs.Postorder.{postorder}
use Rattle.cv_syntax_trees.specs.Tree.{Tree, Empty, Node}
use Rattle.cv_query_certificates.specs.Alternatives.{number_of, routes_behind, routes_of}
use Rattle.cv_query_parts.specs.Countable.{AreCountable, AreCountableParts, IsCountable, IsCountableCertificate, IsCountablePart, IsCountableSaying, derivation_by}
use Rattle.cv_query_parts.specs.Said.{cell_way, saying_at, saying_of, way_of}
use Rattle.cv_syntax.specs.limits.Limits.{nodes_of}
use Rattle.cv_kernel.proofs.Nodes.{lines_nodes, nodes_node}

countable : (by t : Tree) → nodes_of by ≤ nodes_of t → nodes_of t < 2 ^ 31 → IsCountable by
countable by t l m = omega (arith, lines_nodes by)

cell_nodes : (c rest : Tree) → nodes_of (derivation_by (cell_way c rest)) ≤ nodes_of rest
cell_nodes c Empty = omega arith
cell_nodes c (Node h q by) = omega (arith, nodes_node h q by)

none_less : (n : ℕ) → nodes_of Empty ≤ n
unfolding postorder
none_less n = omega arith

-- the derivation of a route is no larger than the route
way_nodes : (t : Tree) → nodes_of (derivation_by (way_of t)) ≤ nodes_of t
way_nodes Empty = omega arith
way_nodes (Node head.AboveRoute q by) = omega (arith, nodes_node head.AboveRoute q by)
way_nodes (Node head.CellRoute c rest) = omega (arith, nodes_node head.CellRoute c rest, cell_nodes c rest)
way_nodes (Node head.HoldsRoute by e) = omega (arith, nodes_node head.HoldsRoute by e)
way_nodes (Node h a b) = none_less (nodes_of (Node h a b))

routes_countable : (routes : Tree) → nodes_of routes < 2 ^ 31 → AreCountable routes
routes_countable Empty l = tt
routes_countable (Node h route more) l =
    let n = nodes_node h route more in
    (countable (derivation_by (way_of route)) route (way_nodes route) (omega arith), routes_countable more (omega arith))

choice_countable : (choice : Tree) → nodes_of choice < 2 ^ 31 → AreCountable (routes_of choice)
choice_countable Empty l = tt
choice_countable (Node h item more) l = go (number_of item)
  where
    go : (o : Option ℕ) → AreCountable (routes_behind o (Node h item more) more)
    go None = routes_countable (Node h item more) l
    go (Some n) = routes_countable more (omega (arith, nodes_node h item more))

saying_countable : (n rest : Tree) → nodes_of rest < 2 ^ 31 → IsCountableSaying (saying_at n rest)
saying_countable n Empty l = tt
saying_countable n (Node head.NeverEntry by e) l = countable by (Node head.NeverEntry by e) (omega (arith, nodes_node head.NeverEntry by e)) l
saying_countable n (Node head.WithEntry ws choice) l = choice_countable choice (omega (arith, nodes_node head.WithEntry ws choice))
saying_countable n (Node h a b) l = tt

pair_countable : (p rest : Tree) → nodes_of rest < 2 ^ 31 → IsCountablePart (Node head.Pair p rest)
pair_countable p Empty l = tt
pair_countable p (Node h q Empty) l = tt
pair_countable p (Node h q (Node g c by)) l = countable by (Node h q (Node g c by)) (omega (arith, nodes_node h q (Node g c by), nodes_node g c by)) l

secret_countable : (p rest : Tree) → nodes_of rest < 2 ^ 31 → IsCountablePart (Node head.SecretPair p rest)
secret_countable p Empty l = tt
secret_countable p (Node h q by) l = countable by (Node h q by) (omega (arith, nodes_node h q by)) l

part_countable : (part : Tree) → nodes_of part < 2 ^ 31 → IsCountablePart part
part_countable Empty l = tt
part_countable (Node head.AtEntry n rest) l = saying_countable n rest (omega (arith, nodes_node head.AtEntry n rest))
part_countable (Node head.Pair p rest) l = pair_countable p rest (omega (arith, nodes_node head.Pair p rest))
part_countable (Node head.SecretPair p rest) l = secret_countable p rest (omega (arith, nodes_node head.SecretPair p rest))
part_countable (Node h a b) l = tt

parts_countable : (parts : Tree) → nodes_of parts < 2 ^ 31 → AreCountableParts parts
parts_countable Empty l = tt
parts_countable (Node h part more) l =
    let n = nodes_node h part more in
    (part_countable part (omega arith), parts_countable more (omega arith))

pub certificate_countable : (t : Tree) → nodes_of t < 2 ^ 31 → IsCountableCertificate t
certificate_countable Empty l = tt
certificate_countable (Node head.EventsCertificate parts e) l = parts_countable parts (omega (arith, nodes_node head.EventsCertificate parts e))
certificate_countable (Node head.SecretCertificate parts e) l = parts_countable parts (omega (arith, nodes_node head.SecretCertificate parts e))
certificate_countable (Node h a b) l = tt
