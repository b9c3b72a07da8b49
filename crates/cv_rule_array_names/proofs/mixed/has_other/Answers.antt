use Rattle.std.proofs.Common.{true, if◌then◌else◌, ap, sym, ◌∙◌}
use Rattle.cv_syntax.specs.PoolTrees.{tree_at}
use Rattle.cv_syntax.proofs.Trees.{child_live, empty_at, node_at}
use Rattle.cv_edit_names.specs.Cells.{cells_in}
use Rattle.cv_rule_array_names.specs.Mixed.{has_other}
use Rattle.cv_rule_array_names.proofs.MixedLists.{cells_end, other_here, other_later}
use Rattle.cv_rule_array_names.proofs.mixed.has_other.Goals as goal

pub returns-then-differs : goal.returns-then-differs
returns-then-differs c =
    let trees = c.args.pool.now.trees in
    let link = c.read_node-link.result in
    sym (other_here c.args.x (tree_at trees c.args.cell) (tree_at trees c.cells.at) link.head (tree_at trees link.first) (tree_at trees link.second) (node_at trees c.cells.at c.in-Some.n link c.in-Some.is c.read_node-link.ensures.tree) (sym c.differs.ensures ∙ c.if-differs.true)) ∙ c.cells.invariant.same

pub cells-preserved : goal.cells-preserved
cells-preserved c =
    let trees = c.args.pool.now.trees in
    let link = c.read_node-link.result in
    record {
      live = child_live _ c.cells.at c.in-Some.n link.second c.in-Some.is c.cells.invariant.live c.read_node-link.ensures.second;
      same = sym (other_later c.args.x (tree_at trees c.args.cell) (tree_at trees c.cells.at) link.head (tree_at trees link.first) (tree_at trees link.second) (node_at trees c.cells.at c.in-Some.n link c.in-Some.is c.read_node-link.ensures.tree) (sym c.differs.ensures ∙ c.if-differs.false)) ∙ c.cells.invariant.same;
    }

pub returns : goal.returns
returns c =
    let trees = c.args.pool.now.trees in
    sym (ap (has_other (tree_at trees c.args.cell)) (cells_end c.args.x (tree_at trees c.cells.at) (empty_at trees c.cells.at c.in_default.is))) ∙ c.cells.invariant.same
