use Rattle.std.proofs.Common.{◌≡◌, length}
use Rattle.cv_pool.specs.Nodes.{ChildBelow}
use Rattle.cv_syntax.specs.Declarations.{declarations}
use Rattle.cv_syntax.specs.PoolTrees.{tree_at}
use Rattle.cv_syntax.specs.Walks.{above}
use Rattle.cv_steps_laws.specs.crypto.Sorts.{are_declared}
use Rattle.cv_kernel_crypto.specs.Roles.{is_of}
use Rattle.cv_kernel_crypto.proofs.sorts.are_declared.Given as goal

abbrev pub invariant-binders : goal.invariant-binders
invariant-binders l = record {
  live : ChildBelow (length l.pool.trees) l.at;
  same : are_declared (is_of (declarations l.pool.trees l.decls.list) l.role) (tree_at l.pool.trees l.at) ≡ are_declared (is_of (declarations l.pool.trees l.decls.list) l.role) (tree_at l.pool.trees l.fn.binders);
}

abbrev pub decreases-binders : goal.decreases-binders
decreases-binders l = above l.at
