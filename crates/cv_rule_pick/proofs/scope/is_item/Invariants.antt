use Rattle.std.proofs.Common.{◌≡◌, length}
use Rattle.std.specs.List.{list_any}
use Rattle.cv_pool.specs.Nodes.{ChildBelow}
use Rattle.cv_syntax_trees.specs.Tree.{same_tree}
use Rattle.cv_syntax.specs.PoolTrees.{tree_at}
use Rattle.cv_syntax.specs.Walks.{above}
use Rattle.cv_scope_rules.specs.Context.{items}
use Rattle.cv_rule_pick.proofs.scope.is_item.Given as goal

abbrev pub invariant-items : goal.invariant-items
invariant-items l = record {
  live : ChildBelow (length l.pool.trees) l.at;
  same : list_any (same_tree (tree_at l.pool.trees l.tree)) (items (tree_at l.pool.trees l.at)) ≡ list_any (same_tree (tree_at l.pool.trees l.tree)) (items (tree_at l.pool.trees l.fn.list));
}

abbrev pub decreases-items : goal.decreases-items
decreases-items l = above l.at
