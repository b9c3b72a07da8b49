use Rattle.std.proofs.Common.{None, arith, length, ◌∙◌}
use Rattle.cv_syntax.specs.PoolTrees.{tree_at}
use Rattle.cv_syntax.proofs.Trees.{child_live, empty_at, node_at}
use Rattle.cv_query_certificates.specs.Failures.{is_right}
use Rattle.cv_query_parts.specs.Said.{atom_seen, way_seen}
use Rattle.cv_query_parts.specs.Views.{scene_of, trees_of}
use Rattle.cv_query.proofs.Claiming.{bad_claim, next_claim, no_more_claims, no_more_routes, rest_countable, right_by, route_countable}
use Rattle.cv_query.proofs.right.are_right.Goals as goal

pub returns-in_default : goal.returns-in_default
returns-in_default c = λ f.
    let s = scene_of c.args.view.now in
    let trees = trees_of c.args.view.now in
    no_more_routes (is_right s c.args.place) s f trees c.args.atoms.now c.atoms.k (tree_at trees c.atoms.at) (record { number = 0; atom = None }) c.atoms-test.true (empty_at trees c.atoms.at c.in_default.is) ∙ c.atoms.invariant.same f

pub returns-then-not-is_right : goal.returns-then-not-is_right
returns-then-not-is_right c = λ f.
    let s = scene_of c.args.view.now in
    let trees = trees_of c.args.view.now in
    let node = c.read_node-node.result in
    bad_claim (is_right s c.args.place) s f trees c.args.atoms.now c.atoms.k (tree_at trees c.atoms.at) (record { number = 0; atom = None }) c.atoms-test.true node.head (tree_at trees node.first) (tree_at trees node.second) (node_at trees c.atoms.at c.in-Some.n node c.in-Some.is c.read_node-node.ensures.tree) c.is_right.result
    (right_by s c.args.place f (atom_seen trees c.atom_of-atom.result) (tree_at trees node.first) _ (way_seen trees c.route_of-route.result) (tree_at trees c.derivation_of-by.result) c.is_right.result c.atom_of-atom.ensures.atom c.route_of-route.ensures.way (c.derivation_of-by.ensures.tree trees) c.is_right.ensures)
    c.if-not-is_right.true ∙ c.atoms.invariant.same f

pub returns : goal.returns
returns c = λ f.
    let s = scene_of c.args.view.now in
    let trees = trees_of c.args.view.now in
    no_more_claims (is_right s c.args.place) s f trees c.args.atoms.now c.atoms.k (tree_at trees c.atoms.at) (omega arith) ∙ c.atoms.invariant.same f

pub is_right-requires-clause-few : goal.is_right-requires-clause-few
is_right-requires-clause-few c =
    let trees = trees_of c.args.view.now in
    let node = c.read_node-node.result in
    route_countable (tree_at trees c.atoms.at) node.head (tree_at trees node.first) (tree_at trees node.second) (node_at trees c.atoms.at c.in-Some.n node c.in-Some.is c.read_node-node.ensures.tree) c.atoms.invariant.few (atom_seen trees c.atom_of-atom.result) (way_seen trees c.route_of-route.result) (tree_at trees c.derivation_of-by.result) c.route_of-route.ensures.way (c.derivation_of-by.ensures.tree trees)

pub atoms-preserved : goal.atoms-preserved
atoms-preserved c =
    let s = scene_of c.args.view.now in
    let trees = trees_of c.args.view.now in
    let node = c.read_node-node.result in
    let e = node_at trees c.atoms.at c.in-Some.n node c.in-Some.is c.read_node-node.ensures.tree in
    record {
      live = child_live (length trees) c.atoms.at c.in-Some.n node.second c.in-Some.is c.atoms.invariant.live c.read_node-node.ensures.second;
      few = rest_countable (tree_at trees c.atoms.at) node.head (tree_at trees node.first) (tree_at trees node.second) e c.atoms.invariant.few;
      same = λ f. next_claim (is_right s c.args.place) s f trees c.args.atoms.now c.atoms.k (tree_at trees c.atoms.at) (record { number = 0; atom = None }) c.atoms-test.true node.head (tree_at trees node.first) (tree_at trees node.second) e c.is_right.result
          (right_by s c.args.place f (atom_seen trees c.atom_of-atom.result) (tree_at trees node.first) _ (way_seen trees c.route_of-route.result) (tree_at trees c.derivation_of-by.result) c.is_right.result c.atom_of-atom.ensures.atom c.route_of-route.ensures.way (c.derivation_of-by.ensures.tree trees) c.is_right.ensures)
          c.if-not-is_right.false ∙ c.atoms.invariant.same f;
    }

pub is_right-requires-clause-by : goal.is_right-requires-clause-by
is_right-requires-clause-by c = c.derivation_of-by.ensures.live (length (trees_of c.args.view.now)) c.route_of-route.ensures.live
