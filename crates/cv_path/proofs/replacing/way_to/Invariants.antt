use Rattle.std.proofs.Common.{◌≡◌, ◌+◌, ◌<◌, ◌≤◌, Some, length}
use Rattle.std.specs.Prelude.{All}
use Rattle.cv_pool.specs.Nodes.{ChildBelow}
use Rattle.cv_syntax_trees.specs.Tree.{Tree, size, subtree}
use Rattle.cv_syntax.specs.PoolTrees.{tree_at}
use Rattle.cv_syntax.specs.Walks.{above}
use Rattle.cv_meaning.specs.Replaced.{replaced}
use Rattle.cv_path.specs.Places.{nodes_above}
use Rattle.cv_path.specs.Ways.{led}
use Rattle.cv_path.proofs.replacing.way_to.Given as goal

abbrev pub invariant-down : goal.invariant-down
invariant-down l = record {
  live : ChildBelow (l.fn.root.0 + 1) l.at;
  within : size (tree_at l.pool.trees l.at) ≤ size (tree_at l.pool.trees (Some l.fn.root));
  leads : (new : Tree) → led l.pool.trees l.turns.items (replaced (tree_at l.pool.trees l.at) l.left new) ≡ replaced (tree_at l.pool.trees (Some l.fn.root)) l.fn.place new;
  end : subtree (tree_at l.pool.trees l.at) l.left ≡ subtree (tree_at l.pool.trees (Some l.fn.root)) l.fn.place;
  long : length l.turns.items + nodes_above (tree_at l.pool.trees l.at) l.left ≡ nodes_above (tree_at l.pool.trees (Some l.fn.root)) l.fn.place;
  few : length l.turns.items + above l.at ≤ l.fn.root.0 + 1;
  nodes : All (λ t. t.node.0 < length l.pool.trees) l.turns.items;
  there : l.left < size (tree_at l.pool.trees l.at) → l.fn.place < size (tree_at l.pool.trees (Some l.fn.root));
  not_there : size (tree_at l.pool.trees l.at) ≤ l.left → size (tree_at l.pool.trees (Some l.fn.root)) ≤ l.fn.place;
}

abbrev pub decreases-down : goal.decreases-down
decreases-down l = above l.at
