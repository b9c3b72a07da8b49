use Rattle.std.proofs.Common.{ap, ◌∙◌}
use Rattle.cv_syntax_trees.specs.Tree.{same_tree}
use Rattle.cv_syntax.specs.PoolTrees.{tree_at}
use Rattle.cv_rule_fresh.proofs.Seeing.{plain}
use Rattle.cv_rule_fresh.proofs.cells.is_cell.Goals as goal

pub returns : goal.returns
returns c = c.is_cell_under.ensures ∙ ap (same_tree (tree_at c.args.pool.now.trees c.args.term)) (plain c.front-none.result.now c.args.replications.now _ _ c.front-none.ensures)
