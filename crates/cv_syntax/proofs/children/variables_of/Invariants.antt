use Rattle.std.proofs.Common.{◌≡◌, ◌||◌, ℕ, length}
use Rattle.cv_pool.specs.Nodes.{ChildBelow}
use Rattle.cv_syntax.specs.PoolTrees.{tree_at}
use Rattle.cv_syntax.specs.Walks.{above}
use Rattle.cv_syntax_trees.specs.Tree.{bound_names}
use Rattle.cv_syntax.specs.NameSets.{is_in, is_one_of}
use Rattle.cv_syntax.proofs.children.variables_of.Given as goal

abbrev pub invariant-binders : goal.invariant-binders
invariant-binders l = record {
  live : ChildBelow (length l.pool.trees) l.at;
  same : (y : ℕ) → (is_in l.names y || is_one_of (bound_names (tree_at l.pool.trees l.at)) y) ≡ is_one_of (bound_names (tree_at l.pool.trees l.fn.binders)) y;
}

abbrev pub decreases-binders : goal.decreases-binders
decreases-binders l = above l.at
