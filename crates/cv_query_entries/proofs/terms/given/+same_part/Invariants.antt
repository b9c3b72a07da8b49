use Rattle.std.proofs.Common.{◌≡◌, ◌≤◌, length}
use Rattle.cv_pool.specs.Nodes.{ChildBelow}
use Rattle.cv_syntax_trees.specs.Tree.{same_tree}
use Rattle.cv_syntax.specs.PoolTrees.{tree_at}
use Rattle.cv_syntax.specs.Walks.{above}
use Rattle.cv_query_entries.specs.terms.Parts.{part_tree}
use Rattle.cv_query_entries.proofs.terms.given.+same_part.Given as goal

abbrev pub decreases-same_part : goal.decreases-same_part
decreases-same_part l = above l.tree

abbrev pub invariant-chain : goal.invariant-chain
invariant-chain l = record {
  live : ChildBelow (length l.pool.trees) l.at;
  there : ChildBelow (length l.pool.trees) l.there.node;
  smaller : above l.at ≤ above l.fn.tree;
  same : same_tree (tree_at l.pool.trees l.at) (part_tree l.pool.trees l.given l.there) ≡ same_tree (tree_at l.pool.trees l.fn.tree) (part_tree l.pool.trees l.given l.fn.part);
}

abbrev pub decreases-chain : goal.decreases-chain
decreases-chain l = above l.at
