use Rattle.std.proofs.Common.{◌≡◌, ◌++◌, length}
use Rattle.cv_pool.specs.Nodes.{ChildBelow}
use Rattle.cv_syntax.specs.PoolTrees.{tree_at}
use Rattle.cv_syntax.specs.Walks.{above}
use Rattle.cv_meaning.specs.Correspondences.{leaf_names}
use Rattle.cv_query_entries.proofs.terms.Reading.{alone_of}
use Rattle.cv_query_entries.proofs.terms.sides.right_alone.Given as goal

abbrev pub invariant-binders : goal.invariant-binders
invariant-binders l = record {
  live : ChildBelow (length l.pool.trees) l.at;
  same : l.found.items ++ alone_of (leaf_names (tree_at l.pool.trees l.fn.variables)) (tree_at l.pool.trees l.fn.right) (tree_at l.pool.trees l.at) ≡ alone_of (leaf_names (tree_at l.pool.trees l.fn.variables)) (tree_at l.pool.trees l.fn.right) (tree_at l.pool.trees l.fn.binders);
}

abbrev pub decreases-binders : goal.decreases-binders
decreases-binders l = above l.at
