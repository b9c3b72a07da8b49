use Rattle.std.proofs.Common.{◌∙◌}
use Rattle.cv_syntax.specs.PoolTrees.{tree_at}
use Rattle.cv_syntax.proofs.Trees.{empty_at}
use Rattle.cv_scope.proofs.Comparing.{carries_end}
use Rattle.cv_scope.proofs.terms.carries.Goals as goal

pub returns : goal.returns
returns c = carries_end c.args.replications.now c.list.count (tree_at c.args.pool.now.trees c.list.at) c.list.invariant.few (empty_at c.args.pool.now.trees c.list.at c.in_default.is) ∙ c.list.invariant.same
