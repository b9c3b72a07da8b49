-- The weights of trees: how much they hold.
use Rattle.std.specs.Prelude.{ℕ, ◌+◌, ◌*◌, List, [], ◌∷◌, min}
use Rattle.cv_syntax_trees.specs.declared.head.Head.{Head}
use Rattle.cv_syntax_trees.specs.declared.head.Head.TheVariants.{Repl, In, Out, Event, New, Let, Find, Leaf, Read, Apply, Binder, Name, Number, Occurs, OccursOnce, Secret, SecretOnce, Equivalence, Bound, Single, Oracle}
use Rattle.cv_syntax.specs.declared.make.Make.{Make}
use Rattle.cv_syntax.specs.declared.make.Make.TheVariants.{Nothing, Over}
use Rattle.cv_syntax_trees.specs.Declarations.{Declaration}
use Rattle.cv_syntax_trees.specs.Head.{weight}
use Rattle.cv_syntax_trees.specs.Tree.{Tree, Empty, Node}
use Rattle.cv_parse_declarations.specs.signature.Declares.{tree_in}

-- how many names and numbers a node of a file holds
abbrev pub held : Head → ℕ
held (Repl i n) = 2
held (In c) = 1
held (Out c) = 1
held (Event e) = 1
held (New x T) = 2
held (Let x T) = 2
held (Find label) = 1
held (Leaf x) = 1
held (Read x) = 1
held (Apply f) = 1
held (Binder x T) = 2
held (Name x) = 1
held (Number v) = 1
held (Occurs e) = 1
held (OccursOnce e) = 1
held (Secret x) = 1
held (SecretOnce x) = 1
held (Equivalence p) = 1
held (Bound i n) = 2
held (Single f) = 1
held (Oracle f) = 1
held h = 0

-- the weight of a tree: its syntax nodes, and the names and numbers that its nodes hold
unfoldable pub tree_weight : Tree → ℕ
tree_weight Empty = 0
tree_weight (Node h a b) = tree_weight a + (tree_weight b + (weight h + held h))

-- of the trees of declarations and of a game
abbrev pub declared_weight : List Declaration → ℕ
declared_weight [] = 0
declared_weight (d ∷ ds) = tree_weight (tree_in d) + declared_weight ds

-- the same of parts of trees
abbrev pub part_weight : Make → ℕ
part_weight Nothing = 0
part_weight (Over h) = weight h + held h

abbrev pub parts_weight : List Make → ℕ
parts_weight [] = 0
parts_weight (m ∷ ms) = part_weight m + parts_weight ms

-- a number that a report carries
abbrev pub capped : ℕ → ℕ
capped n = min n 4294967295

-- how many nodes are asked for, for trees of this weight
abbrev pub asked : ℕ → ℕ
asked w = capped (4 * w)
