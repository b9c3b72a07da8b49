use Rattle.std.proofs.Common.{None, ap, get_or, length, refl, ◌∙◌}
use Rattle.cv_syntax.specs.PoolTrees.{tree_at}
use Rattle.cv_syntax.proofs.Trees.{child_live, empty_at, node_at}
use Rattle.cv_query_certificates.specs.Pairs.{is_injective}
use Rattle.cv_query_parts.specs.declared.alternatives.NumberedAtom.{NumberedAtom}
use Rattle.cv_query_parts.specs.declared.pairs.marked.MarkedRoute.{MarkedRoute}
use Rattle.cv_query_parts.specs.pairs.Marked.{IsMarkedBelow}
use Rattle.cv_query_parts.proofs.pairs.Meeting.{one_more}
use Rattle.cv_query_parts.proofs.pairs.Reaching.{marked, no_more_routes}
use Rattle.cv_query_parts.proofs.pairs.marked.marked_routes.Goals as goal

pub returns-in_default-clause-ends : goal.returns-in_default-clause-ends
returns-in_default-clause-ends c =
    let trees = c.args.pool.now.trees in
    no_more_routes trees c.args.atoms.now c.atoms.k (tree_at trees c.atoms.at) c.atoms.found.items _ c.atoms.invariant.same c.atoms-test.true (record { number = 0; atom = None }) (empty_at trees c.atoms.at c.in_default.is)

pub atoms-preserved : goal.atoms-preserved
atoms-preserved c =
    let trees = c.args.pool.now.trees in
    let node = c.read_node-node.result in
    let first : NumberedAtom = record { number = 0; atom = None } in
    let found : MarkedRoute = record { atom = (get_or c.args.atoms.now c.atoms.k first).number; route = c.route_of.result } in
    record {
      live = child_live (length trees) c.atoms.at c.in-Some.n node.second c.in-Some.is c.atoms.invariant.live c.read_node-node.ensures.second;
      below = one_more (IsMarkedBelow (length trees)) c.atoms.found.items c.push.new.self.items found c.atoms.invariant.below c.route_of.ensures.live c.in_ok-push.ensures.items;
      same = marked trees c.args.atoms.now c.atoms.k (tree_at trees c.atoms.at) c.atoms.found.items _ c.atoms.invariant.same first c.atoms-test.true node.head (tree_at trees node.first) (tree_at trees node.second) (node_at trees c.atoms.at c.in-Some.n node c.in-Some.is c.read_node-node.ensures.tree) c.is_injective.result (c.is_injective.ensures trees ∙ ap is_injective c.atom_of.ensures.atom) c.if-not-is_injective.false
          found c.push.new.self.items refl c.route_of.ensures.way c.in_ok-push.ensures.items;
    }
