-- Builders of trees, for worked cases.
use Rattle.std.specs.Prelude.{ℕ, Bool, List, if◌then◌else◌}
use Rattle.cv_syntax_trees.specs.declared.head.Head.TheVariants.{In, Out, Event, Find, Branch, Leaf, Read, Cons, Query, Occurs, OccursOnce}
use Rattle.cv_syntax_trees.specs.Tree.{Tree, Empty, Node, lone, chain, names, binders}

abbrev pub leaf : ℕ → Tree
leaf x = lone (Leaf x)

abbrev pub read : ℕ → List Tree → Tree
read x ms = Node (Read x) (chain ms) Empty

abbrev pub input : ℕ → List ℕ → List (ℕ × ℕ) → Tree → Tree
input c is bs body = Node (In c) (Node Cons (names is) (binders bs)) body

abbrev pub output : ℕ → List ℕ → List Tree → Tree → Tree
output c is ms rest = Node (Out c) (Node Cons (names is) (chain ms)) rest

abbrev pub event : ℕ → List Tree → Tree → Tree
event e ms rest = Node (Event e) (chain ms) rest

abbrev pub branch : List (ℕ × ℕ) → List Tree → Tree → Tree → Tree
branch bs cells condition body = Node Branch (binders bs) (Node Cons (chain cells) (Node Cons condition body))

abbrev pub find : ℕ → List Tree → Tree → Tree
find l branches otherwise = Node (Find l) (chain branches) otherwise

-- `event e(variables) ==> atoms`
abbrev pub correspondence : List (ℕ × ℕ) → Tree → List Tree → Tree
correspondence bs left atoms = Node Query (binders bs) (Node Cons left (chain atoms))

abbrev pub occurs : Bool → ℕ → List Tree → Tree
occurs inj e ms = Node (if inj then OccursOnce e else Occurs e) (chain ms) Empty
