use Rattle.std.proofs.Common.{◌≡◌, ◌+◌, ◌≤◌, length}
use Rattle.cv_pool.specs.Nodes.{ChildBelow}
use Rattle.cv_syntax_trees.specs.Tree.{size}
use Rattle.cv_syntax.specs.PoolTrees.{tree_at}
use Rattle.cv_syntax.specs.Walks.{above}
use Rattle.cv_scene.specs.Refusals.{uses}
use Rattle.cv_match_terms.proofs.uses.numbers.+uses.Given as goal

abbrev pub decreases-uses : goal.decreases-uses
decreases-uses l = above l.tree

abbrev pub invariant-tree : goal.invariant-tree
invariant-tree l = record {
  live : ChildBelow (length l.pool.trees) l.at;
  less : above l.at ≤ above l.fn.tree;
  small : size (tree_at l.pool.trees l.at) ≤ size (tree_at l.pool.trees l.fn.tree);
  same : l.total + uses l.x (tree_at l.pool.trees l.at) ≡ uses l.x (tree_at l.pool.trees l.fn.tree);
}

abbrev pub decreases-tree : goal.decreases-tree
decreases-tree l = above l.at
