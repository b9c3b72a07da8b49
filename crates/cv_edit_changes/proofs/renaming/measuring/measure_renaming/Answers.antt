use Rattle.std.proofs.Common.{Some, sym, ◌∙◌}
use Rattle.cv_syntax.specs.PoolTrees.{tree_at}
use Rattle.cv_edit_changes.proofs.renaming.Renamed.{deep, sized}
use Rattle.cv_edit_changes.proofs.renaming.measuring.measure_renaming.Goals as goal

pub returns-clause-nodes : goal.returns-clause-nodes
returns-clause-nodes c = λ x y. c.size.ensures ∙ sym (sized x y (tree_at c.args.pool.now.trees (Some c.args.game)))

pub returns-clause-depth : goal.returns-clause-depth
returns-clause-depth c = λ x y. c.depth.ensures ∙ sym (deep x y (tree_at c.args.pool.now.trees (Some c.args.game)))
