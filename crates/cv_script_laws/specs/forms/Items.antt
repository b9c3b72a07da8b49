-- Steps that have items.
use Rattle.std.specs.Prelude.{◌≡◌, Some}
use Rattle.cv_syntax_trees.specs.Tree.{Tree}
use Rattle.cv_script.specs.Views.{StepItems, items_of_step}

-- the tree has the items of a step
pub record HasItems (t : Tree) : Type 0 where
  pub items : StepItems
  pub are : items_of_step t ≡ Some items
