-- For how many nodes a pool is asked, before a variable is renamed.
use Rattle.std.specs.Prelude.{ℕ, ◌+◌, if◌then◌else◌}
use Rattle.cv_syntax_trees.specs.Tree.{Tree, Empty, Node}
use Rattle.cv_scene.specs.Scenes.{names}
use Rattle.cv_syntax.specs.listing.Needs.{most_asked}

-- how many nodes have the name, or a node below that has it, counted at each of their places: the others stay
unfoldable pub nodes_renaming : ℕ → Tree → ℕ
nodes_renaming x Empty = 0
nodes_renaming x (Node h a b) = if names x (Node h a b) then nodes_renaming x a + nodes_renaming x b + 1 else 0

abbrev pub need_renaming : ℕ → Tree → ℕ
need_renaming x t = most_asked (nodes_renaming x t)
