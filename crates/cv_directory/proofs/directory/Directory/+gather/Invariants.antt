use Rattle.std.proofs.Common.{◌≡◌, ℕ, ◌||◌, ◌+◌, ◌≤◌, length, take}
use Rattle.cv_pool.specs.Nodes.{ChildBelow}
use Rattle.cv_syntax_trees.specs.Tree.{size}
use Rattle.cv_syntax.specs.PoolTrees.{tree_at}
use Rattle.cv_syntax.specs.Walks.{above}
use Rattle.cv_directory.specs.Definitions.{definitions_from, large_in}
use Rattle.cv_syntax_trees.specs.sites.Sites.{first_index, is_untyped_in}
use Rattle.cv_directory.specs.Tables.{entries_in, untyped_of, with_entries}
use Rattle.cv_directory.proofs.directory.Directory.+gather.Given as goal

abbrev pub decreases-gather : goal.decreases-gather
decreases-gather l = above l.tree

abbrev pub invariant-tree : goal.invariant-tree
invariant-tree l = record {
  live : ChildBelow (length l.pool.trees) l.at;
  same : with_entries (large_in l.decls.list) (entries_in l.pool.trees l.self) (λ x. definitions_from l.path.items l.place x (tree_at l.pool.trees l.at)) (λ i. first_index i (tree_at l.pool.trees l.at))
      ≡ with_entries (large_in l.decls.list) (entries_in l.pool.trees l.fn.self) (λ x. definitions_from l.fn.path.items l.fn.from x (tree_at l.pool.trees l.fn.tree)) (λ i. first_index i (tree_at l.pool.trees l.fn.tree));
  untyped : (x : ℕ) → (untyped_of l.self.untyped x || is_untyped_in x (tree_at l.pool.trees l.at)) ≡ (untyped_of l.fn.self.untyped x || is_untyped_in x (tree_at l.pool.trees l.fn.tree));
  sum : l.place + size (tree_at l.pool.trees l.at) ≡ l.fn.from + size (tree_at l.pool.trees l.fn.tree);
  front : take l.above l.path.items ≡ l.fn.path.items;
  long : l.above ≤ length l.path.items;
  less : above l.at ≤ above l.fn.tree;
}

abbrev pub decreases-tree : goal.decreases-tree
decreases-tree l = above l.at
