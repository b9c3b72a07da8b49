use Rattle.std.proofs.Common.{◌≡◌, length}
use Rattle.cv_pool.specs.Nodes.{ChildBelow}
use Rattle.cv_syntax.specs.PoolTrees.{tree_at}
use Rattle.cv_syntax.specs.Walks.{above}
use Rattle.cv_group_rules.specs.Rules as rule
use Rattle.cv_group.proofs.shapes.shapes.all_agree.Given as goal

abbrev pub invariant-list : goal.invariant-list
invariant-list l = record {
  live : ChildBelow (length l.pool.trees) l.p;
  right : ChildBelow (length l.pool.trees) l.q;
  same : rule.all_agree (tree_at l.pool.trees l.p) (tree_at l.pool.trees l.q) ≡ rule.all_agree (tree_at l.pool.trees l.fn.left) (tree_at l.pool.trees l.fn.right);
}

abbrev pub decreases-list : goal.decreases-list
decreases-list l = above l.p
