use Rattle.std.proofs.Common.{None, ap, ◌∙◌}
use Rattle.cv_syntax_trees.specs.Tree.{same_tree}
use Rattle.cv_syntax.specs.PoolTrees.{tree_at}
use Rattle.cv_scope_rules.specs.Context.{cell_of}
use Rattle.cv_rule_pick.proofs.WithTerms.{none_under}
use Rattle.cv_rule_pick.proofs.cells.is_cell.Goals as goal

pub returns : goal.returns
returns c =
    let trees = c.args.pool.now.trees in
    c.is_cell_under.ensures ∙ ap (same_tree (tree_at trees c.args.tree)) (none_under c.front-none.result.now c.args.replications.now (tree_at trees None) (cell_of c.args.replications.now c.args.x) c.front-none.ensures)
