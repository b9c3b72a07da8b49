-- The parts of a tree from the last to the first: a node, then its second child, then its first.
use Rattle.std.specs.Prelude.{List, [], ◌∷◌, ◌++◌}
use Rattle.cv_syntax.specs.declared.make.Make.{Make}
use Rattle.cv_syntax.specs.declared.make.Make.TheVariants.{Nothing, Over}
use Rattle.cv_syntax_trees.specs.Tree.{Tree, Empty, Node}

unfoldable pub backward : Tree → List Make
backward Empty = Nothing ∷ []
backward (Node h a b) = Over h ∷ (backward b ++ backward a)

-- the parts of trees, one tree after another
unfoldable pub all_backward : List Tree → List Make
all_backward [] = []
all_backward (t ∷ ts) = backward t ++ all_backward ts
