use Rattle.std.proofs.Common.{◌≡◌, None, Option, Some, List}
use Rattle.std.specs.Prelude.{IfNone}
use Rattle.cv_pool.specs.declared.node.NodeId.{NodeId}
use Rattle.cv_pool.specs.KindTree.{KindTree}
use Rattle.cv_syntax_trees.specs.Tree.{Empty}
use Rattle.cv_syntax.specs.PoolTrees.{tree_at}
use Rattle.cv_syntax.proofs.Trees.{tree_at_None}
use Rattle.cv_rule_move.proofs.merge.planning.process_in.Goals as goal

nothing : (trees : List KindTree) (o : Option NodeId) → IfNone o (tree_at trees o ≡ Empty)
nothing trees None = tree_at_None trees
nothing trees (Some n) = tt

pub returns-clause-none : goal.returns-clause-none
returns-clause-none c = nothing c.args.pool.now.trees c.args.body
