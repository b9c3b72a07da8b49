use Rattle.std.proofs.Common.{◌≡◌, ◌+◌, length}
use Rattle.cv_pool.specs.Nodes.{ChildBelow}
use Rattle.cv_syntax_trees.specs.Tree as tree
use Rattle.cv_syntax.specs.PoolTrees.{tree_at}
use Rattle.cv_syntax.specs.Walks.{above}
use Rattle.cv_rule_move.specs.merge.Merging.{branch_bodies, first_other}
use Rattle.cv_rule_move.proofs.merge.bodies.other_branch.Given as goal

abbrev pub invariant-branches : goal.invariant-branches
invariant-branches l = record {
  live : ChildBelow (length l.pool.trees) l.at;
  sum : l.from + tree.size (tree_at l.pool.trees l.at) ≡ l.fn.place + tree.size (tree_at l.pool.trees l.fn.branches);
  same : first_other (tree_at l.pool.trees l.fn.process) (branch_bodies l.from (tree_at l.pool.trees l.at)) ≡ first_other (tree_at l.pool.trees l.fn.process) (branch_bodies l.fn.place (tree_at l.pool.trees l.fn.branches));
}

abbrev pub decreases-branches : goal.decreases-branches
decreases-branches l = above l.at
