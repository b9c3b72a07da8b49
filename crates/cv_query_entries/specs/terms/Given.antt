-- A tree with terms for names, by what is given for each name: what is put is not looked into.
use Rattle.std.specs.Prelude.{ℕ, List, map, Option, None}
use Rattle.cv_syntax_trees.specs.lists.Options.{first_of}
use Rattle.cv_syntax_trees.specs.declared.head.Head.{Head}
use Rattle.cv_syntax_trees.specs.declared.head.Head.TheVariants.{Leaf}
use Rattle.cv_syntax_trees.specs.Tree.{Tree, Empty, Node}
use Rattle.cv_scene.specs.lines.Given.{or_node, term_for}

-- the term that is given for a name, if there is one
abbrev pub Terms : Type 0
Terms = ℕ → Option Tree

abbrev pub given_by : Terms → Head → Option Tree
given_by f (Leaf x) = f x
given_by f h = None

unfoldable pub put : Terms → Tree → Tree
put f Empty = Empty
put f (Node h a b) = or_node (given_by f h) h (put f a) (put f b)

abbrev pub names_in : List (ℕ × ℕ) → List ℕ
names_in xs = map (λ (x : ℕ × ℕ). x.0) xs

-- terms for the variables of a query, and behind them those for other names
abbrev pub terms_given : (variables : List ℕ) → (arguments : Tree) → (others : List (ℕ × ℕ)) → (terms : Tree) → Terms
terms_given xs ms ys ns x = first_of (term_for xs ms x) (term_for (names_in ys) ns x)
