use Rattle.std.proofs.Common.{◌≡◌, length}
use Rattle.cv_pool.specs.Nodes.{ChildBelow}
use Rattle.cv_syntax.specs.PoolTrees.{tree_at}
use Rattle.cv_syntax.specs.Walks.{above}
use Rattle.cv_group_rules.specs.Rules as rule
use Rattle.cv_syntax.specs.NameSets.{is_outside}
use Rattle.cv_group.specs.shapes.Shapes.{are_taken}
use Rattle.cv_group.proofs.shapes.shapes.have_distinct_bounds.Given as goal

abbrev pub invariant-list : goal.invariant-list
invariant-list l = record {
  live : ChildBelow (length l.pool.trees) l.at;
  same : are_taken (is_outside l.seen) (rule.bounds (tree_at l.pool.trees l.at)) ≡ rule.are_distinct (rule.bounds (tree_at l.pool.trees l.fn.functions));
}

abbrev pub decreases-list : goal.decreases-list
decreases-list l = above l.at
