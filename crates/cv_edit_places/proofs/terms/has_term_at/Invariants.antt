use Rattle.std.proofs.Common.{◌≡◌, ◌+◌, ◌≤◌, Some}
use Rattle.cv_pool.specs.Nodes.{ChildBelow}
use Rattle.cv_syntax_trees.specs.Tree.{size}
use Rattle.cv_syntax.specs.PoolTrees.{tree_at}
use Rattle.cv_syntax.specs.Walks.{above}
use Rattle.cv_scope_rules.specs.Phrases as grammar
use Rattle.cv_steps.specs.Rewriting.{has_term_at}
use Rattle.cv_scene_view.specs.phrases.Phrases.{phrase_of}
use Rattle.cv_edit_places.proofs.terms.has_term_at.Given as goal

abbrev pub invariant-down : goal.invariant-down
invariant-down l = record {
  live : ChildBelow (l.fn.game.0 + 1) l.at;
  within : size (tree_at l.pool.trees l.at) ≤ size (tree_at l.pool.trees (Some l.fn.game));
  same : has_term_at (phrase_of l.phrase) (tree_at l.pool.trees l.at) l.left ≡ has_term_at grammar.Inputs (tree_at l.pool.trees (Some l.fn.game)) l.fn.place;
}

abbrev pub decreases-down : goal.decreases-down
decreases-down l = above l.at
