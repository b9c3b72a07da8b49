use Rattle.std.proofs.Common.{Some, arith, ap, ◌∙◌, length}
use Rattle.cv_syntax.proofs.Trees.{child_live, empty_at}
use Rattle.cv_syntax.proofs.Walking.{above_child, above_some}
use Rattle.cv_edit_names.proofs.branches.node_below.Goals as goal

pub returns-in-Some-clause-live : goal.returns-in-Some-clause-live
returns-in-Some-clause-live c =
    let k = above_some c.args.child c.in-Some.n c.in-Some.is in
    record {
      first = child_live _ c.args.child c.in-Some.n c.read_node.result.first c.in-Some.is c.requires c.read_node.ensures.first;
      second = child_live _ c.args.child c.in-Some.n c.read_node.result.second c.in-Some.is c.requires c.read_node.ensures.second;
      first_below = omega (arith, k, above_child c.in-Some.n.0 c.read_node.result.first c.read_node.ensures.first);
      second_below = omega (arith, k, above_child c.in-Some.n.0 c.read_node.result.second c.read_node.ensures.second);
    }

pub returns-in-None-clause-none : goal.returns-in-None-clause-none
returns-in-None-clause-none c = empty_at c.args.pool.now.trees c.args.child c.in-None.is
