use Rattle.std.proofs.Common.{◌≡◌, length}
use Rattle.cv_pool.specs.Nodes.{ChildBelow}
use Rattle.cv_syntax_trees.specs.Tree.{bound_names}
use Rattle.cv_syntax.specs.PoolTrees.{tree_at}
use Rattle.cv_syntax.specs.Walks.{above}
use Rattle.cv_scene.specs.lines.Given.{term_for}
use Rattle.cv_derive_reasons.proofs.substitution.instances.term_for.Given as goal

abbrev pub invariant-binders : goal.invariant-binders
invariant-binders l = record {
  live : ChildBelow (length l.pool.trees) l.at;
  terms : ChildBelow (length l.pool.trees) l.behind;
  rest : term_for (bound_names (tree_at l.pool.trees l.at)) (tree_at l.pool.trees l.behind) l.x ≡ term_for (bound_names (tree_at l.pool.trees l.fn.binders)) (tree_at l.pool.trees l.fn.terms) l.x;
}

abbrev pub decreases-binders : goal.decreases-binders
decreases-binders l = above l.at
