use Rattle.std.proofs.Common.{length, map, sym, ◌∙◌}
use Rattle.cv_syntax.specs.PoolTrees.{tree_at}
use Rattle.cv_syntax.proofs.Trees.{child_live, empty_at, node_at}
use Rattle.cv_group.proofs.bodies.Steps as step
use Rattle.cv_group.specs.bodies.Levels.{around_of, level_of}
use Rattle.cv_group.proofs.bodies.cells.are_cells.Goals as goal

pub returns-then-not-is_cell : goal.returns-then-not-is_cell
returns-then-not-is_cell c =
    let trees = c.args.pool.now.trees in
    let node = c.read_node-node.result in
    step.cells_stop (around_of c.args.around.now) (map level_of c.args.levels.now) (tree_at trees c.cells.at) node.head (tree_at trees node.first) (tree_at trees node.second) _ (node_at trees c.cells.at c.in-Some.k node c.in-Some.is c.read_node-node.ensures.tree) c.cells.invariant.same (sym c.is_cell.ensures ∙ c.if-not-is_cell.true)

pub cells-preserved : goal.cells-preserved
cells-preserved c =
    let trees = c.args.pool.now.trees in
    let node = c.read_node-node.result in
    record { live = child_live (length trees) c.cells.at c.in-Some.k node.second c.in-Some.is c.cells.invariant.live c.read_node-node.ensures.second; same = step.cells_more (around_of c.args.around.now) (map level_of c.args.levels.now) (tree_at trees c.cells.at) node.head (tree_at trees node.first) (tree_at trees node.second) _ (node_at trees c.cells.at c.in-Some.k node c.in-Some.is c.read_node-node.ensures.tree) c.cells.invariant.same (sym c.is_cell.ensures ∙ c.if-not-is_cell.false) }

pub returns : goal.returns
returns c = sym (step.cells_end (around_of c.args.around.now) (map level_of c.args.levels.now) (tree_at c.args.pool.now.trees c.cells.at) (empty_at c.args.pool.now.trees c.cells.at c.in_default.is)) ∙ c.cells.invariant.same
