-- What is left of facts that are taken apart at `&&`. This profile's own.
use Rattle.std.specs.Prelude.{Bool, List, [], ◌∷◌, ◌++◌, flat_map}
use Rattle.std.specs.List.{list_any}
use Rattle.cv_syntax_trees.specs.declared.head.Head.TheVariants.{And}
use Rattle.cv_syntax_trees.specs.Tree.{Tree, Node, same_tree}

-- the terms at the ends of a tree of `&&`
unfoldable pub parts_of : Tree → List Tree
parts_of (Node And m n) = parts_of m ++ parts_of n
parts_of t = t ∷ []

abbrev pub conjuncts : (facts : List Tree) → List Tree
conjuncts facts = flat_map parts_of facts

-- the term is one of these
abbrev pub is_among : List Tree → Tree → Bool
is_among ts t = list_any (same_tree t) ts
