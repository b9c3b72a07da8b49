use Rattle.std.proofs.Common.{◌≡◌, ◌≤◌, ℕ, ◌||◌, length}
use Rattle.cv_pool.specs.Nodes.{ChildBelow}
use Rattle.cv_syntax.specs.NameSets.{is_in}
use Rattle.cv_syntax.specs.PoolTrees.{tree_at}
use Rattle.cv_syntax.specs.Walks.{above}
use Rattle.cv_meaning.specs.Correspondences.{reads}
use Rattle.cv_query_entries.proofs.terms.sides.+add_reads.Given as goal

abbrev pub decreases-add_reads : goal.decreases-add_reads
decreases-add_reads l = above l.tree

abbrev pub invariant-chain : goal.invariant-chain
invariant-chain l = record {
  live : ChildBelow (length l.pool.trees) l.at;
  smaller : above l.at ≤ above l.fn.tree;
  same : (y : ℕ) → (reads (tree_at l.pool.trees l.at) y || is_in l.names y) ≡ (reads (tree_at l.pool.trees l.fn.tree) y || is_in l.fn.names y);
}

abbrev pub decreases-chain : goal.decreases-chain
decreases-chain l = above l.at
