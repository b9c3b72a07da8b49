use Rattle.std.proofs.Common.{◌<◌, ◌^◌, List, length, None, sym, subst, arith}
use Rattle.cv_pool.specs.KindTree.{KindTree}
use Rattle.cv_syntax_trees.specs.Tree.{Empty}
use Rattle.cv_syntax.specs.PoolTrees.{tree_at}
use Rattle.cv_syntax.proofs.Trees.{tree_at_None}
use Rattle.cv_scene.specs.lines.Lines.{lines_of, statements}
use Rattle.cv_query_parts.specs.Views.{trees_of}
use Rattle.cv_query.proofs.right.bad_line.Goals as goal

none-few : length (statements (lines_of Empty)) < 2 ^ 32
unfolding lines_of statements
none-few = omega arith

few : (trees : List KindTree) → length (statements (lines_of (tree_at trees None))) < 2 ^ 32
few trees = subst (λ t. length (statements (lines_of t)) < 2 ^ 32) (sym (tree_at_None trees)) none-few

pub check-requires-clause-few_targets : goal.check-requires-clause-few_targets
check-requires-clause-few_targets c = few (trees_of c.args.view.now)
