use Rattle.std.proofs.Common.{◌≡◌, ℕ, ◌||◌, ◌&&◌, length}
use Rattle.cv_pool.specs.Nodes.{ChildBelow}
use Rattle.cv_syntax_trees.specs.Tree.{bound_names}
use Rattle.cv_syntax.specs.PoolTrees.{tree_at}
use Rattle.cv_syntax.specs.Walks.{above}
use Rattle.std.specs.Prelude.{◌==◌}
use Rattle.cv_syntax.specs.NameSets.{is_one_of}
use Rattle.cv_group.specs.bodies.Levels.{is_paired}
use Rattle.cv_group.proofs.names.pair_binders.Given as goal

abbrev pub invariant-binders : goal.invariant-binders
invariant-binders l = record {
  live : ChildBelow (length l.pool.trees) l.at;
  same : (n x : ℕ) → (is_paired l.names n x || ((l.bound == n) && is_one_of (bound_names (tree_at l.pool.trees l.at)) x)) ≡ (is_paired l.fn.names n x || ((l.bound == n) && is_one_of (bound_names (tree_at l.pool.trees l.fn.binders)) x));
}

abbrev pub decreases-binders : goal.decreases-binders
decreases-binders l = above l.at
