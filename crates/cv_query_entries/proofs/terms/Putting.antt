-- What trees with terms for names are, node by node.
use Rattle.std.proofs.Common.{◌≡◌, false, refl, ap₂, ◌∙◌}
use Rattle.cv_syntax_trees.specs.declared.head.Head.{Head}
use Rattle.cv_syntax_trees.specs.Tree.{Tree, Empty, Node, same_tree}
use Rattle.cv_syntax.proofs.Trees.{same_open, tree_of_NoTree}
use Rattle.cv_scene.specs.lines.Given.{or_node}
use Rattle.cv_query_entries.specs.terms.Given.{Terms, given_by, put}

pub put_empty : (f : Terms) → put f Empty ≡ Empty
unfolding put
put_empty f = refl

pub put_node : (f : Terms) (h : Head) (a b : Tree) → put f (Node h a b) ≡ or_node (given_by f h) h (put f a) (put f b)
unfolding put
put_node f h a b = refl

-- a node is not the same as nothing
pub same_nothing : (s t : Tree) (h : Head) (a b : Tree) → s ≡ Node h a b → t ≡ Empty → same_tree s t ≡ false
same_nothing s t h a b e f = ap₂ same_tree e f ∙ same_open (Node h a b) Empty

pub ruleset putting = (tree_of_NoTree, same_open, put_empty, put_node)
