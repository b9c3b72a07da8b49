use Rattle.std.proofs.Common.{◌≡◌, ◌+◌, ◌-◌, ◌≤◌, Some, option_map}
use Rattle.cv_pool.specs.Nodes.{ChildBelow}
use Rattle.cv_syntax_trees.specs.Tree.{size}
use Rattle.cv_syntax.specs.PoolTrees.{tree_at}
use Rattle.cv_syntax.specs.Walks.{above}
use Rattle.cv_rule_fresh.specs.collisions.Choices.{choice_above, choice_in}
use Rattle.cv_rule_fresh.specs.Looks.{choice_of}
use Rattle.cv_rule_fresh.proofs.choices.choice_above.Given as goal

abbrev pub invariant-down : goal.invariant-down
invariant-down l = record {
  live : ChildBelow (l.fn.game.0 + 1) l.at;
  within : size (tree_at l.pool.trees l.at) ≤ size (tree_at l.pool.trees (Some l.fn.game));
  left : l.left ≤ l.fn.place;
  same : choice_in l.x (option_map choice_of l.last) (l.fn.place - l.left) (tree_at l.pool.trees l.at) l.left ≡ choice_above (tree_at l.pool.trees (Some l.fn.game)) l.x l.fn.place;
}

abbrev pub decreases-down : goal.decreases-down
decreases-down l = above l.at
