use Rattle.std.proofs.Common.{◌≡◌, ◌+◌, ◌≤◌, length, drop}
use Rattle.cv_pool.specs.Nodes.{ChildBelow}
use Rattle.cv_syntax.specs.PoolTrees.{tree_at}
use Rattle.cv_syntax.specs.Walks.{above}
use Rattle.cv_scene.specs.lines.Given.{term_for}
use Rattle.cv_edit_changes.specs.unletting.Assigned.{names_above}
use Rattle.cv_edit_changes.proofs.unletting.given.term_for.Given as goal

abbrev pub decreases-terms : goal.decreases-terms
decreases-terms l = above l.at

abbrev pub invariant-terms : goal.invariant-terms
invariant-terms l = record {
  live : ChildBelow (length l.pool.trees) l.at;
  few : l.k + above l.at ≤ above l.fn.terms;
  rest : term_for (drop l.k (names_above l.pool.trees l.directory l.x)) (tree_at l.pool.trees l.at) l.name ≡ term_for (names_above l.pool.trees l.directory l.x) (tree_at l.pool.trees l.fn.terms) l.name;
}
