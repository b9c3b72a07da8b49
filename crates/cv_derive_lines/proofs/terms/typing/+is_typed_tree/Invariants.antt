use Rattle.std.proofs.Common.{◌≡◌, ◌≤◌, length}
use Rattle.cv_pool.specs.Nodes.{ChildBelow}
use Rattle.cv_syntax.specs.Declarations.{declarations}
use Rattle.cv_syntax.specs.PoolTrees.{tree_at}
use Rattle.cv_syntax.specs.Walks.{above as rank}
use Rattle.cv_typing.specs.Lookups.{IsLiveWant, signature_in, want_of}
use Rattle.cv_typing.specs.Tables.{above_of}
use Rattle.cv_derive_lines.specs.terms.Typed.{is_typed_tree, names_of}
use Rattle.cv_derive_lines.proofs.terms.typing.+is_typed_tree.Given as goal

abbrev pub decreases-is_typed_tree : goal.decreases-is_typed_tree
decreases-is_typed_tree l = rank l.tree

abbrev pub invariant-tree : goal.invariant-tree
invariant-tree l = record {
  live : ChildBelow (length l.pool.trees) l.at;
  want : IsLiveWant (length l.pool.trees) l.asked;
  less : rank l.at ≤ rank l.fn.tree;
  same : is_typed_tree (names_of (declarations l.pool.trees l.decls.list) l.arrays l.above) (signature_in l.pool.trees l.decls.list l.arrays) (above_of l.above) (want_of l.pool.trees l.arrays l.asked) (tree_at l.pool.trees l.at) ≡ is_typed_tree (names_of (declarations l.pool.trees l.decls.list) l.arrays l.above) (signature_in l.pool.trees l.decls.list l.arrays) (above_of l.above) (want_of l.pool.trees l.arrays l.fn.want) (tree_at l.pool.trees l.fn.tree);
}

abbrev pub decreases-tree : goal.decreases-tree
decreases-tree l = rank l.at
