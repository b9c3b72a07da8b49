-- What the code finds where the list of a branch may change. This profile's own.
use Rattle.std.specs.Prelude.{◌≡◌, ℕ, Bool, List, length, None}
use Rattle.cv_pool.specs.KindTree.{KindTree}
use Rattle.cv_pool.specs.Nodes.{ChildBelow}
use Rattle.cv_syntax_trees.specs.declared.head.Head.TheVariants.{Branch}
use Rattle.cv_syntax_trees.specs.Tree.{Tree, Node}
use Rattle.cv_syntax.specs.PoolTrees.{tree_at}
use Rattle.cv_scene.specs.Scenes.{Scene, part_at}
use Rattle.cv_edit_places.specs.Plans.{failing}
use Rattle.cv_rule_codef.specs.Row.{codef_row}
use Rattle.cv_rule_codef.specs.declared.lists.Site.{Site}

-- the trees of a branch and of the link of its list
pub record IsBranch (trees : List KindTree) (t : Tree) (m : Site) : Type 0 where
  pub stands : t ≡ Node m.branch.head (tree_at trees m.branch.first) (Node m.link.head (tree_at trees m.link.first) (tree_at trees m.link.second))
  pub head : m.branch.head ≡ Branch
  pub indices : ChildBelow (length trees) m.branch.first
  pub list : ChildBelow (length trees) m.link.first
  pub rest : ChildBelow (length trees) m.link.second

-- The branch stands at the place, and no condition of the row fails.
pub record IsSite (trees : List KindTree) (s : Scene) (place : ℕ) (adds above : Bool) (to from : Tree) (m : Site) : Type 0 where
  pub branch : IsBranch trees (part_at s.game place) m
  pub met : failing (codef_row s place adds above to from) ≡ None
