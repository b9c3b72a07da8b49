use Rattle.std.proofs.Common.{◌≡◌, ◌+◌, ◌<◌, ◌≤◌, None, length}
use Rattle.std.specs.Prelude.{All}
use Rattle.cv_pool.specs.Nodes.{ChildBelow}
use Rattle.cv_pool.specs.PoolView.{Grows}
use Rattle.cv_syntax.specs.PoolTrees.{tree_at}
use Rattle.cv_path.specs.Ways.{led}
use Rattle.cv_path.proofs.replacing.rebuilt.Given as goal

abbrev pub invariant-up : goal.invariant-up
invariant-up l = record {
  tree : led l.fn.pool.trees l.left.items (tree_at l.pool.trees l.new) ≡ led l.fn.pool.trees l.fn.way.items (tree_at l.fn.pool.trees l.fn.by);
  live : ChildBelow (length l.pool.trees) l.new;
  none : l.new ≡ None → l.fn.by ≡ None;
  grows : Grows l.fn.pool l.pool;
  spare : length l.left.items ≤ l.pool.spare;
  few : length l.pool.trees + length l.left.items ≤ length l.fn.pool.trees + length l.fn.way.items;
  nodes : All (λ t. t.node.0 < length l.fn.pool.trees) l.left.items;
}

abbrev pub decreases-up : goal.decreases-up
decreases-up l = length l.left.items
