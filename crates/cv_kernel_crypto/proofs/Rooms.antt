-- How many nodes a tree takes.
use Rattle.std.proofs.Common.{◌≡◌, ◌+◌, List, [], ◌∷◌, ◌++◌, ap, ◌∙◌, arith}
use Rattle.cv_syntax_trees.specs.declared.head.Head.{Head}
use Rattle.cv_syntax.specs.declared.make.Make.{Make}
use Rattle.cv_syntax.specs.declared.make.Make.TheVariants.{Nothing, Over}
use Rattle.cv_syntax.specs.Planting.{overs}
use Rattle.cv_syntax.specs.Postorder.{postorder}
use Rattle.cv_syntax_trees.specs.Tree.{Tree, Empty, Node}
use Rattle.cv_syntax.specs.limits.Limits.{nodes_of}
use Rattle.cv_syntax.proofs.listing.Lists.{overs_append}

pub nodes_empty : (t : Tree) → t ≡ Empty → nodes_of t ≡ 0
unfolding postorder
nodes_empty t e = ap nodes_of e

pub nodes_node : (t : Tree) (h : Head) (a b : Tree) → t ≡ Node h a b → nodes_of t ≡ nodes_of a + nodes_of b + 1
unfolding postorder
nodes_node t h a b e = ap nodes_of e ∙ omega (arith, overs_append (postorder a) (postorder b ++ Over h ∷ []), overs_append (postorder b) (Over h ∷ []))
