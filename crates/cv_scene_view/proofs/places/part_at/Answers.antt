use Rattle.std.proofs.Common.{◌≡◌, List, Option, Some, None, refl, ap, ◌∙◌}
use Rattle.std.specs.Prelude.{option_map}
use Rattle.cv_pool.specs.KindTree.{KindTree}
use Rattle.cv_pool.specs.declared.node.NodeId.{NodeId}
use Rattle.cv_syntax_trees.specs.Tree.{Tree, Empty}
use Rattle.cv_syntax.specs.PoolTrees.{tree_at}
use Rattle.cv_syntax.proofs.Trees.{tree_at_None}
use Rattle.cv_scene.specs.Scenes.{or_empty}
use Rattle.cv_scene_view.proofs.places.part_at.Goals as goal

there : (trees : List KindTree) (o : Option NodeId) → tree_at trees o ≡ or_empty (option_map (λ n. tree_at trees (Some n)) o)
there trees None = tree_at_None trees
there trees (Some n) = refl

pub returns-clause-part : goal.returns-clause-part
returns-clause-part c = there c.args.pool.now.trees c.at.result ∙ ap or_empty c.at.ensures.tree
