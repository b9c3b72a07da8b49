use Rattle.std.proofs.Common.{◌≡◌, ◌+◌, ◌≤◌, length}
use Rattle.cv_pool.specs.Nodes.{ChildBelow}
use Rattle.cv_syntax.specs.PoolTrees.{tree_at}
use Rattle.cv_syntax.specs.Walks.{above}
use Rattle.cv_meaning.specs.Correspondences.{alternatives_from, atom_count}
use Rattle.cv_query_parts.specs.Alternatives.{AreAlternativesBelow, alternatives_seen, each_with}
use Rattle.cv_query_parts.proofs.alternatives.+alternatives_from.Given as goal

abbrev pub decreases-alternatives_from : goal.decreases-alternatives_from
decreases-alternatives_from l = above l.right

abbrev pub invariant-parts : goal.invariant-parts
invariant-parts l = record {
  live : ChildBelow (length l.pool.trees) l.at;
  less : above l.at ≤ above l.fn.right;
  count : l.next + atom_count (tree_at l.pool.trees l.at) ≡ l.fn.number + atom_count (tree_at l.pool.trees l.fn.right);
  below : AreAlternativesBelow (length l.pool.trees) l.found.items;
  same : each_with (alternatives_seen l.pool.trees l.found.items) (alternatives_from l.next (tree_at l.pool.trees l.at)) ≡ alternatives_from l.fn.number (tree_at l.pool.trees l.fn.right);
}

abbrev pub decreases-parts : goal.decreases-parts
decreases-parts l = above l.at
