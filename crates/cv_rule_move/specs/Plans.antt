-- What the code finds where a definition may move. This profile's own.
use Rattle.std.specs.Prelude.{◌≡◌, ℕ, ◌<◌, List, length, None}
use Rattle.cv_pool.specs.KindTree.{KindTree}
use Rattle.cv_pool.specs.Nodes.{ChildBelow}
use Rattle.cv_syntax_trees.specs.Tree.{Node, size}
use Rattle.cv_syntax.specs.PoolTrees.{tree_at}
use Rattle.cv_scene.specs.Scenes.{Scene, part_at}
use Rattle.cv_steps.specs.Changes.{change_at}
use Rattle.cv_steps.specs.Steps.{Leads, Zero}
use Rattle.cv_edit_places.specs.Plans.{failure_of}
use Rattle.cv_rule_move.specs.Moving.{moved}
use Rattle.cv_rule_move.specs.Steps.{move_step}
use Rattle.cv_rule_move.specs.declared.planning.Site.{Site}

-- The definition stands at the place, with the construct behind it, and all conditions of the step hold.
pub record IsMovable (trees : List KindTree) (s : Scene) (place : ℕ) (m : Site) : Type 0 where
  pub stands :
      part_at s.game place
      ≡ Node m.definition.head (tree_at trees m.definition.first) (Node m.construct.head (tree_at trees m.construct.first) (tree_at trees m.construct.second))
  pub met : failure_of s (move_step place) ≡ None
  pub leads : (move_step place).row s ≡ Leads (change_at s.game place moved) Zero
  pub there : place < size s.game
  pub term : ChildBelow (length trees) m.definition.first
  pub first : ChildBelow (length trees) m.construct.first
  pub second : ChildBelow (length trees) m.construct.second
