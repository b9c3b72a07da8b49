use Rattle.std.proofs.Common.{◌≡◌}
use Rattle.cv_syntax_trees.specs.Tree.{bound_names}
use Rattle.cv_syntax.specs.NameSets.{is_one_of}
use Rattle.cv_syntax.specs.PoolTrees.{tree_at}
use Rattle.cv_syntax.specs.Walks.{above}
use Rattle.cv_settling.proofs.equations.is_bound.Given as goal

abbrev pub invariant-binders : goal.invariant-binders
invariant-binders l = is_one_of (bound_names (tree_at l.pool.trees l.at)) l.x ≡ is_one_of (bound_names (tree_at l.pool.trees l.fn.binders)) l.x

abbrev pub decreases-binders : goal.decreases-binders
decreases-binders l = above l.at
