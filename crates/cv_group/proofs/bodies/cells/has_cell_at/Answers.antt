use Rattle.std.proofs.Common.{length, sym, ◌∙◌}
use Rattle.cv_syntax.specs.PoolTrees.{tree_at}
use Rattle.cv_syntax.proofs.Trees.{child_live, empty_at, node_at}
use Rattle.cv_group.proofs.bodies.Steps as step
use Rattle.cv_group.proofs.bodies.cells.has_cell_at.Goals as goal

pub returns-then-is_at : goal.returns-then-is_at
returns-then-is_at c =
    let trees = c.args.pool.now.trees in
    let node = c.read_node-node.result in
    step.own_here c.args.u (tree_at trees c.cells.at) node.head (tree_at trees node.first) (tree_at trees node.second) _ (node_at trees c.cells.at c.in-Some.k node c.in-Some.is c.read_node-node.ensures.tree) c.cells.invariant.same (sym c.is_at.ensures ∙ c.if-is_at.true)

pub cells-preserved : goal.cells-preserved
cells-preserved c =
    let trees = c.args.pool.now.trees in
    let node = c.read_node-node.result in
    record { live = child_live (length trees) c.cells.at c.in-Some.k node.second c.in-Some.is c.cells.invariant.live c.read_node-node.ensures.second; same = step.own_more c.args.u (tree_at trees c.cells.at) node.head (tree_at trees node.first) (tree_at trees node.second) _ (node_at trees c.cells.at c.in-Some.k node c.in-Some.is c.read_node-node.ensures.tree) c.cells.invariant.same (sym c.is_at.ensures ∙ c.if-is_at.false) }

pub returns : goal.returns
returns c = sym (step.own_end c.args.u (tree_at c.args.pool.now.trees c.cells.at) (empty_at c.args.pool.now.trees c.cells.at c.in_default.is)) ∙ c.cells.invariant.same
