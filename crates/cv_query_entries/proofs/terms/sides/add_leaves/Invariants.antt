use Rattle.std.proofs.Common.{◌≡◌, ℕ, ◌||◌, length}
use Rattle.cv_pool.specs.Nodes.{ChildBelow}
use Rattle.cv_syntax.specs.NameSets.{is_in, is_one_of}
use Rattle.cv_syntax.specs.PoolTrees.{tree_at}
use Rattle.cv_syntax.specs.Walks.{above}
use Rattle.cv_meaning.specs.Correspondences.{leaf_names}
use Rattle.cv_query_entries.proofs.terms.sides.add_leaves.Given as goal

abbrev pub invariant-items : goal.invariant-items
invariant-items l = record {
  live : ChildBelow (length l.pool.trees) l.at;
  same : (y : ℕ) → (is_one_of (leaf_names (tree_at l.pool.trees l.at)) y || is_in l.names y) ≡ (is_one_of (leaf_names (tree_at l.pool.trees l.fn.list)) y || is_in l.fn.names y);
}

abbrev pub decreases-items : goal.decreases-items
decreases-items l = above l.at
