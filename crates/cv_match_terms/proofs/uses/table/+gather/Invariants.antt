use Rattle.std.proofs.Common.{◌≡◌, ◌≤◌, ℕ, length, take}
use Rattle.cv_pool.specs.Nodes.{ChildBelow}
use Rattle.cv_syntax.specs.PoolTrees.{tree_at}
use Rattle.cv_syntax.specs.Walks.{above}
use Rattle.cv_match_terms.specs.uses.Tallies.{plus, tally_at, tally_of}
use Rattle.cv_match_terms.proofs.uses.table.+gather.Given as goal

abbrev pub decreases-gather : goal.decreases-gather
decreases-gather l = above l.tree

abbrev pub invariant-tree : goal.invariant-tree
invariant-tree l = record {
  live : ChildBelow (length l.pool.trees) l.at;
  less : above l.at ≤ above l.fn.tree;
  front : take l.outside l.passed.items ≡ l.fn.passed.items;
  same : (y : ℕ) → plus (tally_at l.entries.items y) (tally_of l.passed.items y (tree_at l.pool.trees l.at)) ≡ plus (tally_at l.fn.entries.items y) (tally_of l.fn.passed.items y (tree_at l.pool.trees l.fn.tree));
}

abbrev pub decreases-tree : goal.decreases-tree
decreases-tree l = above l.at
