use Rattle.std.proofs.Common.{◌≡◌, ◌≤◌, drop, length}
use Rattle.cv_pool.specs.Nodes.{ChildBelow}
use Rattle.cv_syntax.specs.PoolTrees.{tree_at}
use Rattle.cv_syntax.specs.Walks.{above}
use Rattle.cv_scope_rules.specs.Context.{items}
use Rattle.cv_scene.specs.Late.{are_current}
use Rattle.cv_derive_lines.specs.citing.Bookmarks.{visible_to}
use Rattle.cv_derive.proofs.indices.are_current.Given as goal

abbrev pub invariant-terms : goal.invariant-terms
invariant-terms l = record {
  live : ChildBelow (length l.pool.trees) l.at;
  cited : ChildBelow (length l.pool.trees) l.cited;
  few : l.count ≤ length l.replications;
  same : are_current (visible_to l.pool.trees l.citing) (drop l.count l.replications) (items (tree_at l.pool.trees l.at)) (items (tree_at l.pool.trees l.cited)) ≡ are_current (visible_to l.pool.trees l.citing) l.replications (items (tree_at l.pool.trees l.fn.terms)) (items (tree_at l.pool.trees l.fn.lines));
}

abbrev pub decreases-terms : goal.decreases-terms
decreases-terms l = above l.at
