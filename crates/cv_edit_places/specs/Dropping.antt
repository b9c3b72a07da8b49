-- How many nodes of a pool the tree without the definitions of a variable has, counted at each of its places.
use Rattle.std.specs.Prelude.{ℕ, ◌+◌, if◌then◌else◌}
use Rattle.cv_syntax_trees.specs.Tree.{Tree, Empty, Node}
use Rattle.cv_meaning.specs.Still.{defines}
use Rattle.cv_syntax.specs.listing.Needs.{most_asked}
use Rattle.cv_steps.specs.Changes.{only}

unfoldable pub nodes_without : ℕ → Tree → ℕ
nodes_without x Empty = 0
nodes_without x (Node h a b) = if defines (only x) h then nodes_without x b else nodes_without x a + nodes_without x b + 1

abbrev pub need_without : ℕ → Tree → ℕ
need_without x t = most_asked (nodes_without x t)
