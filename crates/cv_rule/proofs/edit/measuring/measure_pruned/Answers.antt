use Rattle.std.proofs.Common.{Some}
use Rattle.cv_syntax_trees.specs.Tree.{depth, size}
use Rattle.cv_syntax.specs.PoolTrees.{tree_at}
use Rattle.cv_edit_changes.specs.pruning.Bodies.{part_of}
use Rattle.cv_rule.proofs.edit.Pruned.{pruned_count}
use Rattle.cv_rule.proofs.edit.measuring.measure_pruned.Goals as goal

pub returns-clause-nodes : goal.returns-clause-nodes
returns-clause-nodes c = pruned_count (tree_at c.args.pool.now.trees (Some c.args.game)) c.args.place size (part_of c.args.body) c.in-Some.extent.nodes c.in-Some.ensures.nodes

pub returns-clause-depth : goal.returns-clause-depth
returns-clause-depth c = pruned_count (tree_at c.args.pool.now.trees (Some c.args.game)) c.args.place depth (part_of c.args.body) c.in-Some.extent.depth c.in-Some.ensures.depth
