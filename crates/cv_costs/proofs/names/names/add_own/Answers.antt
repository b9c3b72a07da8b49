use Rattle.cv_syntax.specs.NameSets.{is_in}
use Rattle.cv_syntax.specs.PoolTrees.{tree_at}
use Rattle.cv_syntax.proofs.Trees.{empty_at}
use Rattle.cv_scope_rules.specs.Made.{is_own_of}
use Rattle.cv_costs.proofs.names.Looks.{none_more, own_end}
use Rattle.cv_costs.proofs.names.names.add_own.Goals as goal

pub returns : goal.returns
returns c = λ y. none_more (is_own_of (tree_at c.args.pool.now.trees c.branches.at) y) (is_in c.branches.names y) (is_own_of (tree_at c.args.pool.now.trees c.args.branches) y) (is_in c.args.names.now y) (own_end (tree_at c.args.pool.now.trees c.branches.at) y (empty_at c.args.pool.now.trees c.branches.at c.in_default.is)) (c.branches.invariant.same y)
