-- A tree with terms for names, all at once: what is put is not looked into. This profile's own.
use Rattle.std.specs.Prelude.{ℕ, ◌==◌, if◌then◌else◌, List, [], ◌∷◌, Option, Some, None}
use Rattle.cv_syntax_trees.specs.declared.head.Head.{Head}
use Rattle.cv_syntax_trees.specs.declared.head.Head.TheVariants.{Leaf}
use Rattle.cv_syntax_trees.specs.Tree.{Tree, Empty, Node}

-- the term that is given for a name: the names and the terms stand in one order, and of two equal names the first counts
abbrev pub term_for : List ℕ → Tree → ℕ → Option Tree
term_for [] terms x = None
term_for (i ∷ is) Empty x = None
term_for (i ∷ is) (Node h term more) x = if i == x then Some term else term_for is more x

abbrev pub given_for : List ℕ → Tree → Head → Option Tree
given_for is terms (Leaf x) = term_for is terms x
given_for is terms h = None

abbrev pub or_node : Option Tree → Head → Tree → Tree → Tree
or_node None h a b = Node h a b
or_node (Some t) h a b = t

unfoldable pub with_given : List ℕ → Tree → Tree → Tree
with_given is terms Empty = Empty
with_given is terms (Node h a b) = or_node (given_for is terms h) h (with_given is terms a) (with_given is terms b)
