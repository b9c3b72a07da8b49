use Rattle.std.proofs.Common.{None, arith, length, ◌∙◌}
use Rattle.cv_syntax.specs.PoolTrees.{tree_at}
use Rattle.cv_syntax.proofs.Trees.{child_live, empty_at, node_at}
use Rattle.cv_query_certificates.specs.Failures.{has_end}
use Rattle.cv_query_entries.specs.terms.Given.{put}
use Rattle.cv_query_entries.specs.terms.Parts.{terms_of}
use Rattle.cv_query_parts.specs.Said.{atom_seen, way_seen}
use Rattle.cv_query_parts.specs.Views.{scene_of, trees_of}
use Rattle.cv_query.proofs.Claiming.{bad_claim, end_by, next_claim, no_more_claims, no_more_routes}
use Rattle.cv_query.proofs.ends.have_ends.Goals as goal

pub returns-in_default : goal.returns-in_default
returns-in_default c = λ p.
    let s = scene_of c.args.view.now in
    let trees = trees_of c.args.view.now in
    let f = put (terms_of trees c.args.given.now) in
    no_more_routes (has_end s p) s f trees c.args.atoms.now c.atoms.k (tree_at trees c.atoms.at) (record { number = 0; atom = None }) c.atoms-test.true (empty_at trees c.atoms.at c.in_default.is) ∙ c.atoms.invariant.same p

pub returns : goal.returns
returns c = λ p.
    let s = scene_of c.args.view.now in
    let trees = trees_of c.args.view.now in
    let f = put (terms_of trees c.args.given.now) in
    no_more_claims (has_end s p) s f trees c.args.atoms.now c.atoms.k (tree_at trees c.atoms.at) (omega arith) ∙ c.atoms.invariant.same p

pub returns-then-not-ends : goal.returns-then-not-ends
returns-then-not-ends c = λ p.
    let s = scene_of c.args.view.now in
    let trees = trees_of c.args.view.now in
    let f = put (terms_of trees c.args.given.now) in
    let node = c.read_node-node.result in
    bad_claim (has_end s p) s f trees c.args.atoms.now c.atoms.k (tree_at trees c.atoms.at) (record { number = 0; atom = None }) c.atoms-test.true node.head (tree_at trees node.first) (tree_at trees node.second) (node_at trees c.atoms.at c.in-Some.n node c.in-Some.is c.read_node-node.ensures.tree) c.in_ok-ends.ends
    (end_by s p f (atom_seen trees c.atom_of-atom.result) (tree_at trees node.first) _ (way_seen trees c.route_of-route.result) c.in_ok-ends.ends c.atom_of-atom.ensures.atom c.route_of-route.ensures.way c.in_ok-ends.ensures) c.if-not-ends.true ∙ c.atoms.invariant.same p

pub atoms-preserved : goal.atoms-preserved
atoms-preserved c =
    let s = scene_of c.args.view.now in
    let trees = trees_of c.args.view.now in
    let f = put (terms_of trees c.args.given.now) in
    let node = c.read_node-node.result in
    record {
      live = child_live (length trees) c.atoms.at c.in-Some.n node.second c.in-Some.is c.atoms.invariant.live c.read_node-node.ensures.second;
      same = λ p. next_claim (has_end s p) s f trees c.args.atoms.now c.atoms.k (tree_at trees c.atoms.at) (record { number = 0; atom = None }) c.atoms-test.true node.head (tree_at trees node.first) (tree_at trees node.second) (node_at trees c.atoms.at c.in-Some.n node c.in-Some.is c.read_node-node.ensures.tree) c.in_ok-ends.ends
          (end_by s p f (atom_seen trees c.atom_of-atom.result) (tree_at trees node.first) _ (way_seen trees c.route_of-route.result) c.in_ok-ends.ends c.atom_of-atom.ensures.atom c.route_of-route.ensures.way c.in_ok-ends.ensures) c.if-not-ends.false ∙ c.atoms.invariant.same p;
    }
