use Rattle.std.proofs.Common.{◌≡◌, length}
use Rattle.cv_pool.specs.Nodes.{ChildBelow}
use Rattle.cv_syntax.specs.PoolTrees.{tree_at}
use Rattle.cv_syntax.specs.Walks.{above}
use Rattle.cv_scope_rules.specs.Context.{items}
use Rattle.cv_scene.specs.lines.Inferences.{are_equal_by}
use Rattle.cv_derive_lines.specs.citing.Bookmarks.{visible_to}
use Rattle.cv_derive_lines.proofs.terms.arguments.are_equal_by.Given as goal

abbrev pub invariant-lines : goal.invariant-lines
invariant-lines l = record {
  live : ChildBelow (length l.pool.trees) l.at;
  first : ChildBelow (length l.pool.trees) l.first;
  second : ChildBelow (length l.pool.trees) l.second;
  same : are_equal_by (visible_to l.pool.trees l.citing) (items (tree_at l.pool.trees l.at)) (items (tree_at l.pool.trees l.first)) (items (tree_at l.pool.trees l.second)) ≡ are_equal_by (visible_to l.pool.trees l.citing) (items (tree_at l.pool.trees l.fn.cited_claim)) (items (tree_at l.pool.trees l.fn.left)) (items (tree_at l.pool.trees l.fn.right));
}

abbrev pub decreases-lines : goal.decreases-lines
decreases-lines l = above l.at
