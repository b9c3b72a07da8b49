-- What the code finds where a construct may become its body. This profile's own.
use Rattle.std.specs.Prelude.{◌≡◌, ℕ, ◌+◌, ◌<◌, false, List, length, Some, None}
use Rattle.cv_pool.specs.KindTree.{KindTree}
use Rattle.cv_pool.specs.Nodes.{ChildBelow}
use Rattle.cv_syntax_trees.specs.Children.{is_empty}
use Rattle.cv_syntax_trees.specs.Tree.{Node, size}
use Rattle.cv_syntax.specs.PoolTrees.{tree_at}
use Rattle.cv_scene.specs.Scenes.{Scene, part_at}
use Rattle.cv_rule_move.specs.merge.Looks.{first_in}
use Rattle.cv_rule_move.specs.merge.Merging.{Body, bodies, first_other}
use Rattle.cv_rule_move.specs.declared.merge.planning.Site.{Site}

-- the first body
abbrev pub body_of : List KindTree → Site → Body
body_of trees m = record { place = m.body; process = tree_at trees (Some m.process) }

-- The construct stands at the place, and all its bodies are the one.
pub record IsSite (trees : List KindTree) (s : Scene) (place : ℕ) (m : Site) : Type 0 where
  pub there : place < size s.game
  pub stands : part_at s.game place ≡ Node m.construct.head (tree_at trees m.construct.first) (tree_at trees m.construct.second)
  pub body : first_in (bodies place (part_at s.game place)) ≡ Some (body_of trees m)
  pub full : is_empty (tree_at trees (Some m.process)) ≡ false
  pub equal : first_other (tree_at trees (Some m.process)) (bodies place (part_at s.game place)) ≡ None
  pub behind : m.behind ≡ place + size (part_at s.game place)
  pub first : ChildBelow (length trees) m.construct.first
  pub live : m.process.0 < length trees
