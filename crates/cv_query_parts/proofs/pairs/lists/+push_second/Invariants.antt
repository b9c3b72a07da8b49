use Rattle.std.proofs.Common.{◌≡◌, ◌≤◌, ◌++◌, length}
use Rattle.cv_pool.specs.Nodes.{ChildBelow}
use Rattle.cv_syntax.specs.Postorder.{postorder}
use Rattle.cv_syntax.specs.PoolTrees.{tree_at}
use Rattle.cv_syntax.specs.Walks.{above}
use Rattle.cv_syntax.specs.parts.Closing.{closing}
use Rattle.cv_scene.specs.Pairs.{of_second}
use Rattle.cv_query_parts.proofs.pairs.lists.+push_second.Given as goal

abbrev pub decreases-push_second : goal.decreases-push_second
decreases-push_second l = above l.tree

abbrev pub invariant-chain : goal.invariant-chain
invariant-chain l = record {
  live : ChildBelow (length l.pool.trees) l.at;
  smaller : above l.at ≤ above l.fn.tree;
  made : l.makes.items ++ (postorder (of_second l.names.raise l.names.rows.now (tree_at l.pool.trees l.at)) ++ closing l.heads.items) ≡ l.fn.makes.items ++ postorder (of_second l.names.raise l.names.rows.now (tree_at l.pool.trees l.fn.tree));
}

abbrev pub decreases-chain : goal.decreases-chain
decreases-chain l = above l.at
