use Rattle.std.proofs.Common.{◌≡◌, ◌≤◌, length}
use Rattle.cv_pool.specs.Nodes.{ChildBelow}
use Rattle.cv_syntax.specs.Declarations.{declarations}
use Rattle.cv_syntax.specs.PoolTrees.{tree_at}
use Rattle.cv_syntax.specs.Walks.{above}
use Rattle.cv_steps_laws.specs.crypto.Sorts.{has_declared_sorts}
use Rattle.cv_kernel_crypto.proofs.sorts.+has_declared_sorts.Given as goal

abbrev pub decreases-has_declared_sorts : goal.decreases-has_declared_sorts
decreases-has_declared_sorts l = above l.tree

abbrev pub invariant-tree : goal.invariant-tree
invariant-tree l = record {
  live : ChildBelow (length l.pool.trees) l.at;
  less : above l.at ≤ above l.fn.tree;
  same : has_declared_sorts (declarations l.pool.trees l.decls.list) (tree_at l.pool.trees l.at) ≡ has_declared_sorts (declarations l.pool.trees l.decls.list) (tree_at l.pool.trees l.fn.tree);
}

abbrev pub decreases-tree : goal.decreases-tree
decreases-tree l = above l.at
