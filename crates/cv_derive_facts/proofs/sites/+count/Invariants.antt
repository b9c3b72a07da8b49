use Rattle.std.proofs.Common.{◌≡◌, ◌+◌, ◌≤◌, length}
use Rattle.cv_pool.specs.Nodes.{ChildBelow}
use Rattle.cv_syntax_trees.specs.Tree.{size}
use Rattle.cv_syntax.specs.PoolTrees.{tree_at}
use Rattle.cv_syntax.specs.Walks.{above}
use Rattle.cv_derive_facts.specs.Definitions.{counted_on, places_of}
use Rattle.cv_derive_facts.proofs.sites.+count.Given as goal

abbrev pub decreases-count : goal.decreases-count
decreases-count l = above l.tree

abbrev pub invariant-chain : goal.invariant-chain
invariant-chain l = record {
  live : ChildBelow (length l.pool.trees) l.at;
  smaller : above l.at ≤ above l.fn.tree;
  place : l.here + size (tree_at l.pool.trees l.at) ≡ l.fn.place + size (tree_at l.pool.trees l.fn.tree);
  seen : counted_on l.seen (places_of l.x l.here (tree_at l.pool.trees l.at)) ≡ counted_on l.fn.seen (places_of l.x l.fn.place (tree_at l.pool.trees l.fn.tree));
}

abbrev pub decreases-chain : goal.decreases-chain
decreases-chain l = above l.at
