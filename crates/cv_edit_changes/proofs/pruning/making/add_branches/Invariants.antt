use Rattle.std.proofs.Common.{◌≡◌, ◌+◌, ◌<◌, ◌≤◌, length}
use Rattle.std.specs.Prelude.{All}
use Rattle.cv_pool.specs.Nodes.{ChildBelow}
use Rattle.cv_syntax.specs.PoolTrees.{tree_at}
use Rattle.cv_syntax.specs.Walks.{above}
use Rattle.cv_path.specs.Ways.{led}
use Rattle.cv_scene.specs.Pruning.{without_branch}
use Rattle.cv_edit_changes.specs.pruning.Lefts.{items}
use Rattle.cv_edit_changes.proofs.pruning.making.add_branches.Given as goal

abbrev pub invariant-items : goal.invariant-items
invariant-items l = record {
  live : ChildBelow (length l.pool.trees) l.at;
  number : 1 ≤ l.left;
  enough : l.left ≤ items (tree_at l.pool.trees l.at);
  leads : led l.pool.trees l.way.items (without_branch (tree_at l.pool.trees l.at) l.left) ≡ led l.pool.trees l.fn.way.items (without_branch (tree_at l.pool.trees l.fn.list) l.fn.k);
  long : length l.way.items + l.left ≡ length l.fn.way.items + l.fn.k;
  few : length l.way.items + above l.at ≤ length l.fn.way.items + above l.fn.list;
  nodes : All (λ t. t.node.0 < length l.pool.trees) l.way.items;
}

abbrev pub decreases-items : goal.decreases-items
decreases-items l = above l.at
