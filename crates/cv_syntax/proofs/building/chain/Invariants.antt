use Rattle.std.proofs.Common.{◌≡◌, ◌+◌, ◌≤◌, drop, length}
use Rattle.cv_syntax.specs.Layouts.{trees_of}
use Rattle.cv_pool.specs.Nodes.{ChildBelow}
use Rattle.cv_pool.specs.PoolView.{Grows}
use Rattle.cv_syntax_trees.specs.Tree.{chain}
use Rattle.cv_syntax.specs.PoolTrees.{tree_at}
use Rattle.cv_syntax.proofs.building.chain.Given as goal

abbrev pub invariant-items : goal.invariant-items
invariant-items l = record {
  tree : tree_at l.pool.trees l.list ≡ chain (drop l.left (trees_of l.fn.pool.trees l.kids));
  live : ChildBelow (length l.pool.trees) l.list;
  grows : Grows l.fn.pool l.pool;
  within : l.left ≤ length l.kids;
  spare : l.fn.pool.spare + l.left ≤ l.pool.spare + length l.kids;
  few : length l.pool.trees + l.left ≤ length l.fn.pool.trees + length l.kids;
}

abbrev pub decreases-items : goal.decreases-items
decreases-items l = l.left
