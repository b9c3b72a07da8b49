use Rattle.std.proofs.Common.{◌≡◌, ◌≤◌, length}
use Rattle.cv_pool.specs.Nodes.{ChildBelow}
use Rattle.cv_syntax_trees.specs.Tree.{same_tree}
use Rattle.cv_syntax.specs.PoolTrees.{tree_at}
use Rattle.cv_syntax.specs.Walks.{above}
use Rattle.cv_rule_pick.specs.Wanted.{put}
use Rattle.cv_rule_pick.proofs.targets.+is_with_terms.Given as goal

abbrev pub decreases-is_with_terms : goal.decreases-is_with_terms
decreases-is_with_terms l = above l.start

abbrev pub invariant-chain : goal.invariant-chain
invariant-chain l = record {
  live : ChildBelow (length l.pool.trees) l.at;
  less : above l.at ≤ above l.fn.start;
  other : ChildBelow (length l.pool.trees) l.other;
  same : same_tree (tree_at l.pool.trees l.other) (put l.pool.trees l.fn.given (tree_at l.pool.trees l.at)) ≡ same_tree (tree_at l.pool.trees l.fn.tree) (put l.pool.trees l.fn.given (tree_at l.pool.trees l.fn.start));
}

abbrev pub decreases-chain : goal.decreases-chain
decreases-chain l = above l.at
