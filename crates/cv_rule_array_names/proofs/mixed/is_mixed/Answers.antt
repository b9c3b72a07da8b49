use Rattle.std.proofs.Common.{ap, sym, ◌∙◌}
use Rattle.cv_syntax.specs.PoolTrees.{tree_at}
use Rattle.cv_syntax.proofs.Trees.{child_live, empty_at, node_at}
use Rattle.cv_edit_names.specs.Cells.{are_mixed}
use Rattle.cv_rule_array_names.proofs.MixedLists.{cells_end, cells_here, cells_later}
use Rattle.cv_rule_array_names.proofs.mixed.is_mixed.Goals as goal

pub returns-then-is_cell_of : goal.returns-then-is_cell_of
returns-then-is_cell_of c =
    let trees = c.args.pool.now.trees in
    let link = c.read_node-link.result in
    c.has_other.ensures ∙ (ap are_mixed (sym (cells_here c.args.x (tree_at trees c.cells.at) link.head (tree_at trees link.first) (tree_at trees link.second) (node_at trees c.cells.at c.in-Some.n link c.in-Some.is c.read_node-link.ensures.tree) (sym c.is_cell_of.ensures ∙ c.if-is_cell_of.true))) ∙ c.cells.invariant.same)

pub cells-preserved : goal.cells-preserved
cells-preserved c =
    let trees = c.args.pool.now.trees in
    let link = c.read_node-link.result in
    record {
      live = child_live _ c.cells.at c.in-Some.n link.second c.in-Some.is c.cells.invariant.live c.read_node-link.ensures.second;
      same = ap are_mixed (sym (cells_later c.args.x (tree_at trees c.cells.at) link.head (tree_at trees link.first) (tree_at trees link.second) (node_at trees c.cells.at c.in-Some.n link c.in-Some.is c.read_node-link.ensures.tree) (sym c.is_cell_of.ensures ∙ c.if-is_cell_of.false))) ∙ c.cells.invariant.same;
    }

pub returns : goal.returns
returns c =
    let trees = c.args.pool.now.trees in
    sym (ap are_mixed (cells_end c.args.x (tree_at trees c.cells.at) (empty_at trees c.cells.at c.in_default.is))) ∙ c.cells.invariant.same
