use Rattle.std.proofs.Common.{◌≡◌, ◌+◌, ◌≤◌, ◌++◌, All, length, map}
use Rattle.cv_pool.specs.Nodes.{ChildBelow}
use Rattle.cv_syntax_trees.specs.Tree.{size}
use Rattle.cv_syntax.specs.PoolTrees.{tree_at}
use Rattle.cv_syntax.specs.Walks.{above}
use Rattle.cv_inline_sites.specs.pairs.Pairs.{IsPairOver, pair_in, pairs_with}
use Rattle.cv_inline_sites.proofs.pairs.pairs.pairs_with.Given as goal

abbrev pub invariant-branches : goal.invariant-branches
invariant-branches l = record {
  live : ChildBelow (length l.pool.trees) l.at;
  less : above l.at ≤ above l.fn.list;
  sum : l.next + size (tree_at l.pool.trees l.at) ≡ l.fn.place + size (tree_at l.pool.trees l.fn.list);
  many : l.fn.place + l.number ≤ l.next;
  over : All (IsPairOver l.pool.trees l.fn.place l.fn.list) l.found.items;
  pairs : map (pair_in l.pool.trees) l.found.items ++ pairs_with l.fn.bound l.number l.next (tree_at l.pool.trees l.at) ≡ pairs_with l.fn.bound 0 l.fn.place (tree_at l.pool.trees l.fn.list);
}

abbrev pub decreases-branches : goal.decreases-branches
decreases-branches l = above l.at
