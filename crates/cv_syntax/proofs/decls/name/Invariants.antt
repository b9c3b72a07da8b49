use Rattle.std.proofs.Common.{◌≡◌, length}
use Rattle.cv_syntax_trees.specs.Tree.{name_at}
use Rattle.cv_pool.specs.Nodes.{ChildBelow}
use Rattle.cv_syntax.specs.PoolTrees.{tree_at}
use Rattle.cv_syntax.specs.Walks.{above}
use Rattle.cv_syntax.proofs.decls.name.Given as goal

abbrev pub invariant-chain : goal.invariant-chain
invariant-chain l = record {
  live : ChildBelow (length l.pool.trees) l.at;
  found : name_at (tree_at l.pool.trees l.at) l.left ≡ name_at (tree_at l.pool.trees l.fn.list) l.fn.k;
}

abbrev pub decreases-chain : goal.decreases-chain
decreases-chain l = above l.at
