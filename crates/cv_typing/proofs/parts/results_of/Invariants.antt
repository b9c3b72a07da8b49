use Rattle.std.proofs.Common.{◌≡◌, ◌++◌, length}
use Rattle.cv_pool.specs.Nodes.{ChildBelow}
use Rattle.cv_syntax.specs.PoolTrees.{tree_at}
use Rattle.cv_syntax.specs.Walks.{above}
use Rattle.cv_typing.specs.Lookups.{signature_in}
use Rattle.cv_scope_rules.specs.typing.Parts.{results}
use Rattle.cv_typing.proofs.parts.results_of.Given as goal

abbrev pub invariant-list : goal.invariant-list
invariant-list l = record {
  live : ChildBelow (length l.pool.trees) l.at;
  same : l.sorts.items ++ results (signature_in l.pool.trees l.decls.list l.arrays) (tree_at l.pool.trees l.key) (tree_at l.pool.trees l.at) ≡ results (signature_in l.pool.trees l.decls.list l.arrays) (tree_at l.pool.trees l.key) (tree_at l.pool.trees l.fn.functions);
}

abbrev pub decreases-list : goal.decreases-list
decreases-list l = above l.at
