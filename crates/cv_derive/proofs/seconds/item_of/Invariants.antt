use Rattle.std.proofs.Common.{◌≡◌, ◌≤◌, length}
use Rattle.cv_pool.specs.Nodes.{ChildBelow}
use Rattle.cv_syntax.specs.PoolTrees.{tree_at}
use Rattle.cv_syntax.specs.Walks.{above}
use Rattle.cv_scope_rules.specs.Context.{items}
use Rattle.cv_scene.specs.Sights.{from_one}
use Rattle.cv_derive.proofs.seconds.item_of.Given as goal

abbrev pub invariant-items : goal.invariant-items
invariant-items l = record {
  live : ChildBelow (length l.pool.trees) l.at;
  from_first : 1 ≤ l.left;
  same : from_one (items (tree_at l.pool.trees l.at)) l.left ≡ from_one (items (tree_at l.pool.trees l.fn.list)) l.fn.k;
}

abbrev pub decreases-items : goal.decreases-items
decreases-items l = above l.at
