use Rattle.std.proofs.Common.{◌≡◌, ℕ, Bool, true, length, Some}
use Rattle.cv_pool.specs.Nodes.{ChildBelow}
use Rattle.cv_syntax.specs.PoolTrees.{tree_at}
use Rattle.cv_syntax.specs.Walks.{above}
use Rattle.cv_directory.specs.Definitions.{bound_definitions, is_other}
use Rattle.cv_syntax_trees.specs.sites.Sites.{binder_sort}
use Rattle.cv_directory.specs.Tables.{entries_in, no_index, with_entries}
use Rattle.cv_directory.proofs.directory.Directory.note_binders.Given as goal

abbrev pub invariant-list : goal.invariant-list
invariant-list l = record {
  live : ChildBelow (length l.pool.trees) l.at;
  same : (large : ℕ → Bool) → true ≡ is_other large (tree_at l.pool.trees (Some l.node)) →
      with_entries large (entries_in l.pool.trees l.self) (λ y. bound_definitions l.path l.place (tree_at l.pool.trees (Some l.node)) (binder_sort l.are_indices) y (tree_at l.pool.trees l.at)) no_index
      ≡ with_entries large (entries_in l.pool.trees l.fn.self) (λ y. bound_definitions l.path l.place (tree_at l.pool.trees (Some l.node)) (binder_sort l.are_indices) y (tree_at l.pool.trees l.fn.list)) no_index;
  untyped : l.self.untyped ≡ l.fn.self.untyped;
}

abbrev pub decreases-list : goal.decreases-list
decreases-list l = above l.at
