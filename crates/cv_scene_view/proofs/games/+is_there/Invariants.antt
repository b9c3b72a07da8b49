use Rattle.std.proofs.Common.{◌≡◌, ◌≤◌, length}
use Rattle.cv_pool.specs.Nodes.{ChildBelow}
use Rattle.cv_syntax.specs.PoolTrees.{tree_at}
use Rattle.cv_syntax.specs.Walks.{above}
use Rattle.cv_syntax.specs.Declarations.{declarations}
use Rattle.cv_scene.specs.Terms.{is_there}
use Rattle.cv_scene_view.specs.Kept.{names_there}
use Rattle.cv_scene_view.specs.phrases.Phrases.{phrase_of}
use Rattle.cv_scene_view.proofs.games.+is_there.Given as goal

abbrev pub decreases-is_there : goal.decreases-is_there
decreases-is_there l = above l.tree

abbrev pub invariant-tree : goal.invariant-tree
invariant-tree l = record {
  live : ChildBelow (length l.pool.trees) l.at;
  less : above l.at ≤ above l.fn.tree;
  same : is_there (names_there (declarations l.pool.trees l.decls.list) l.above l.arrays l.everywhere) (phrase_of l.expected) (tree_at l.pool.trees l.at) ≡ is_there (names_there (declarations l.pool.trees l.decls.list) l.above l.arrays l.everywhere) (phrase_of l.fn.phrase) (tree_at l.pool.trees l.fn.tree);
}

abbrev pub decreases-tree : goal.decreases-tree
decreases-tree l = above l.at
