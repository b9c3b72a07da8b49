-- What closes the nodes of a tree, in postorder.
use Rattle.std.specs.Prelude.{List, [], ◌∷◌, ◌++◌}
use Rattle.cv_syntax_trees.specs.declared.head.Head.{Head}
use Rattle.cv_syntax.specs.declared.make.Make.{Make}
use Rattle.cv_syntax.specs.declared.make.Make.TheVariants.{Over}

-- nodes over what was made, the last head first
abbrev pub closing : List Head → List Make
closing [] = []
closing (h ∷ hs) = closing hs ++ Over h ∷ []
