use Rattle.std.proofs.Common.{◌≡◌, ◌≤◌, ◌+◌, length}
use Rattle.cv_pool.specs.Nodes.{ChildBelow}
use Rattle.cv_syntax_trees.specs.Tree.{size}
use Rattle.cv_syntax.specs.PoolTrees.{tree_at}
use Rattle.cv_syntax.specs.Walks.{above}
use Rattle.cv_rule_move.specs.Moving.{first_naming_branch}
use Rattle.cv_rule_move.proofs.naming.naming_in_branches.Given as goal

abbrev pub invariant-branches : goal.invariant-branches
invariant-branches l = record {
  live : ChildBelow (length l.pool.trees) l.at;
  sum : l.place + size (tree_at l.pool.trees l.at) ≤ l.fn.from + size (tree_at l.pool.trees l.fn.branches);
  same : first_naming_branch l.x l.place (tree_at l.pool.trees l.at) ≡ first_naming_branch l.fn.x l.fn.from (tree_at l.pool.trees l.fn.branches);
}

abbrev pub decreases-branches : goal.decreases-branches
decreases-branches l = above l.at
