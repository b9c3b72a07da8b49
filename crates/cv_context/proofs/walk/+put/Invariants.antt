use Rattle.std.proofs.Common.{◌≡◌, ◌+◌, ◌++◌, ◌≤◌, length, take}
use Rattle.cv_pool.specs.Nodes.{ChildBelow}
use Rattle.cv_syntax.specs.Postorder.{postorder}
use Rattle.cv_syntax_trees.specs.Tree.{size}
use Rattle.cv_syntax.specs.PoolTrees.{tree_at}
use Rattle.cv_syntax.specs.Walks.{above}
use Rattle.cv_syntax.specs.parts.Closing.{closing}
use Rattle.cv_context.specs.Written.{part_at}
use Rattle.cv_context.proofs.walk.+put.Given as goal

abbrev pub decreases-put : goal.decreases-put
decreases-put l = above l.tree

abbrev pub invariant-tree : goal.invariant-tree
invariant-tree l = record {
  live : ChildBelow (length l.pool.trees) l.at;
  less : above l.at ≤ above l.fn.tree;
  sum : l.next.place + size (tree_at l.pool.trees l.at) ≡ l.fn.from.place + size (tree_at l.pool.trees l.fn.tree);
  few : l.next.site ≤ length l.calls;
  order : l.fn.from.site ≤ l.next.site;
  front : take l.outside l.passed.items ≡ l.fn.passed.items;
  made : l.makes.items ++ (postorder (part_at l.pool.trees l.roles l.calls l.here l.passed.items l.next.site l.next.place (tree_at l.pool.trees l.at)).tree ++ closing l.heads.items) ≡ l.fn.makes.items ++ postorder (part_at l.pool.trees l.roles l.calls l.fn.position l.fn.passed.items l.fn.from.site l.fn.from.place (tree_at l.pool.trees l.fn.tree)).tree;
  same : (part_at l.pool.trees l.roles l.calls l.here l.passed.items l.next.site l.next.place (tree_at l.pool.trees l.at)).next ≡ (part_at l.pool.trees l.roles l.calls l.fn.position l.fn.passed.items l.fn.from.site l.fn.from.place (tree_at l.pool.trees l.fn.tree)).next;
}

abbrev pub decreases-tree : goal.decreases-tree
decreases-tree l = above l.at
