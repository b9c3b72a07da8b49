-- What a derivation is to end with. This profile's own.
use Rattle.cv_syntax_trees.specs.declared.head.Head.TheVariants.{Cons, Eq, Line}
use Rattle.cv_syntax_trees.specs.Tree.{Tree, Empty, Node}
use Rattle.cv_scene.specs.lines.Truths.{no}

-- one line that says a term is true
abbrev pub target : (term : Tree) → Tree
target t = Node Cons (Node Line t Empty) Empty

abbrev pub equality : (old new : Tree) → Tree
equality m n = target (Node Eq m n)

abbrev pub falsity : Tree
falsity = target no
