-- From the tree of a text to the game: a plain read gets all its indices, and a plain channel the current ones.
use Rattle.std.specs.Prelude.{ℕ, suc, Bool, false, ◌==◌, if◌then◌else◌, List, [], ◌∷◌, ◌++◌, map, take, Option, Some, None}
use Rattle.std.specs.List.{list_any}
use Rattle.cv_syntax_trees.specs.declared.head.Head.{Head}
use Rattle.cv_syntax_trees.specs.declared.head.Head.TheVariants.{Repl, In, Out, New, Let, Leaf, Read, Cons, Binder}
use Rattle.cv_syntax_trees.specs.Tree.{Tree, Empty, Node, lone, chain, names}
use Rattle.cv_syntax_trees.specs.lists.Options.{first_of}

-- a definition of the variable
abbrev pub defines : Head → ℕ → Bool
defines (New y T) x = y == x
defines (Let y T) x = y == x
defines (Binder y T) x = y == x
defines h x = false

-- how many replications stand above the continuation of a node
abbrev pub under : Head → ℕ → ℕ
under (Repl i n) k = suc k
under h k = k

-- how many replications stand above the first definition of a variable
unfoldable pub first_site : ℕ → ℕ → Tree → Option ℕ
first_site x k Empty = None
first_site x k (Node h a b) = if defines h x then Some k else first_of (first_site x k a) (first_site x (under h k) b)

-- a read of a variable at these indices
abbrev pub read_at : ℕ → List ℕ → Tree
read_at x [] = lone (Leaf x)
read_at x is = Node (Read x) (chain (map (λ i. lone (Leaf i)) is)) Empty

-- a variable with its first current indices; a constant has no site
abbrev pub read_plainly : Option ℕ → List ℕ → ℕ → Tree
read_plainly None now x = lone (Leaf x)
read_plainly (Some k) now x = read_at x (take k now)

-- a bare name: a current index, a constant or a variable
abbrev pub bare : (sites : ℕ → Option ℕ) → (now : List ℕ) → ℕ → Tree
bare sites now x = if list_any (λ i. i == x) now then lone (Leaf x) else read_plainly (sites x) now x

-- the current indices below a node
abbrev pub now_below : Head → List ℕ → List ℕ
now_below (Repl i n) now = now ++ i ∷ []
now_below h now = now

-- an input or an output without written indices of its channel gets the current ones
abbrev pub on_channel : Head → List ℕ → Tree → Tree
on_channel (In c) now (Node Cons Empty b) = Node Cons (names now) b
on_channel (Out c) now (Node Cons Empty b) = Node Cons (names now) b
on_channel h now a = a

abbrev pub put_together : (ℕ → Option ℕ) → List ℕ → Head → Tree → Tree → Tree
put_together sites now (Leaf x) a b = bare sites now x
put_together sites now h a b = Node h (on_channel h now a) b

unfoldable pub filled_at : (ℕ → Option ℕ) → List ℕ → Tree → Tree
filled_at sites now Empty = Empty
filled_at sites now (Node h a b) = put_together sites now h (filled_at sites now a) (filled_at sites (now_below h now) b)

abbrev pub filled : Tree → Tree
filled t = filled_at (λ x. first_site x 0 t) [] t
