-- What a derivation is to end with, said by terms alone.
use Rattle.std.specs.Prelude.{Bool, false, List, [], ◌∷◌, Option, Some, None}
use Rattle.cv_syntax_trees.specs.declared.head.Head.TheVariants.{Eq}
use Rattle.cv_syntax_trees.specs.Tree.{Tree, Node, same_tree}
use Rattle.cv_scene.specs.lines.Lines.{Statement, Holds}

-- the terms of two lists are equal, one by one
abbrev pub said_equal : (ms ns : Tree) → List Statement
said_equal (Node h m ms) (Node k n ns) = Holds (Node Eq m n) ∷ said_equal ms ns
said_equal ms ns = []

-- a term that stands there is this one
abbrev pub is_that : Option Tree → Tree → Bool
is_that None t = false
is_that (Some u) t = same_tree u t
