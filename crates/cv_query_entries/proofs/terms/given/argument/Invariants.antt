use Rattle.std.proofs.Common.{◌≡◌, length}
use Rattle.cv_pool.specs.Nodes.{ChildBelow}
use Rattle.cv_syntax.specs.PoolTrees.{tree_at}
use Rattle.cv_syntax.specs.Walks.{above}
use Rattle.cv_meaning.specs.Correspondences.{leaf_names}
use Rattle.cv_scene.specs.lines.Given.{term_for}
use Rattle.cv_query_entries.proofs.terms.given.argument.Given as goal

abbrev pub invariant-variables : goal.invariant-variables
invariant-variables l = record {
  live : ChildBelow (length l.pool.trees) l.at;
  behind : ChildBelow (length l.pool.trees) l.behind;
  rest : term_for (leaf_names (tree_at l.pool.trees l.at)) (tree_at l.pool.trees l.behind) l.x ≡ term_for (leaf_names (tree_at l.pool.trees l.fn.variables)) (tree_at l.pool.trees l.fn.arguments) l.x;
}

abbrev pub decreases-variables : goal.decreases-variables
decreases-variables l = above l.at
