use Rattle.std.proofs.Common.{Some, ap, sym, ◌∙◌}
use Rattle.cv_syntax.specs.PoolTrees.{tree_at}
use Rattle.cv_syntax.proofs.Trees.{empty_at}
use Rattle.cv_rule_codef.specs.Lists.{has_cell}
use Rattle.cv_rule_codef.proofs.lists.has_cell.Goals as goal

pub returns : goal.returns
returns c =
    let trees = c.args.pool.now.trees in
    sym (ap (has_cell (tree_at trees (Some c.args.cell))) (empty_at trees c.cells.at c.in_default.is)) ∙ c.cells.invariant.same
