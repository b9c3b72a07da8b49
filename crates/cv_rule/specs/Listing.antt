-- The `defined` list of a branch, with what stands behind it.
use Rattle.std.specs.Prelude.{Option, Some, None}
use Rattle.cv_syntax_trees.specs.declared.head.Head.{Head}
use Rattle.cv_syntax_trees.specs.declared.head.Head.TheVariants.{Branch}
use Rattle.cv_syntax_trees.specs.Tree.{Tree, Node}

abbrev pub guards_in : Head → Tree → Option (Tree × Tree)
guards_in Branch (Node h cells rest) = Some (cells, rest)
guards_in h t = None
