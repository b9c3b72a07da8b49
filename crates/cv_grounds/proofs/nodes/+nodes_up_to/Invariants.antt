use Rattle.std.proofs.Common.{◌≡◌, ◌+◌, ◌-◌, ◌<◌, ◌≤◌, ◌^◌, Some}
use Rattle.cv_syntax.specs.PoolTrees.{tree_at}
use Rattle.cv_syntax_trees.specs.Tree.{size}
use Rattle.cv_syntax.specs.Walks.{above}
use Rattle.cv_grounds.proofs.nodes.+nodes_up_to.Given as goal

abbrev pub decreases-nodes_up_to : goal.decreases-nodes_up_to
decreases-nodes_up_to l = l.start.0

abbrev pub decreases-chain : goal.decreases-chain
decreases-chain l = above l.at

abbrev pub invariant-chain : goal.invariant-chain
invariant-chain l = record {
  below : above l.at ≤ l.fn.start.0 + 1;
  few : l.total ≤ l.most;
  least : l.total + size (tree_at l.pool.trees l.at) ≤ size (tree_at l.pool.trees (Some l.fn.start));
  exact : l.most < 2 ^ 32 - 1 → l.total + size (tree_at l.pool.trees l.at) ≡ size (tree_at l.pool.trees (Some l.fn.start));
}
