use Rattle.std.proofs.Common.{◌≡◌, ◌≤◌, ◌+◌, length}
use Rattle.cv_pool.specs.Nodes.{ChildBelow}
use Rattle.cv_syntax_trees.specs.Tree.{size}
use Rattle.cv_syntax.specs.PoolTrees.{tree_at}
use Rattle.cv_syntax.specs.Walks.{above as rank}
use Rattle.cv_typing.specs.Lookups.{IsLiveWant, signature_in, want_of}
use Rattle.cv_typing.specs.Tables.{above_of}
use Rattle.cv_scope_rules.specs.typing.Typing.{first_fault}
use Rattle.cv_typing.proofs.walk.+walk.Given as goal

abbrev pub decreases-walk : goal.decreases-walk
decreases-walk l = rank l.tree

abbrev pub invariant-tree : goal.invariant-tree
invariant-tree l = record {
  live : ChildBelow (length l.pool.trees) l.at;
  want : IsLiveWant (length l.pool.trees) l.want;
  same : first_fault (signature_in l.pool.trees l.decls.list l.arrays) (above_of l.above) (want_of l.pool.trees l.arrays l.want) l.place (tree_at l.pool.trees l.at) ≡ first_fault (signature_in l.pool.trees l.decls.list l.arrays) (above_of l.fn.above) (want_of l.pool.trees l.arrays l.fn.asked) l.fn.from (tree_at l.pool.trees l.fn.tree);
  sum : l.place + size (tree_at l.pool.trees l.at) ≡ l.fn.from + size (tree_at l.pool.trees l.fn.tree);
  kept : above_of l.above ≡ above_of l.fn.above;
  less : rank l.at ≤ rank l.fn.tree;
}

abbrev pub decreases-tree : goal.decreases-tree
decreases-tree l = rank l.at
