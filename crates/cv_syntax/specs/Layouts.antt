-- How the children of a node are laid out in its tree.
use Rattle.std.specs.Prelude.{◌≡◌, ℕ, ◌-◌, ◌<◌, Bool, true, ◌==◌, nat_lt, if◌then◌else◌, List, length, map, take, slice_index_or, Some}
use Rattle.cv_syntax_trees.specs.declared.head.Head.{Head}
use Rattle.cv_syntax_trees.specs.declared.head.Head.TheVariants.{Par, Let, Eq, And, Or, Not, If, Read, Apply, In, Out, Branch, Cons}
use Rattle.cv_syntax.specs.declared.layout.Layout.{Layout}
use Rattle.cv_syntax.specs.declared.layout.Layout.TheVariants.{Lone, One, Two, Three, Listed, Rest, Taking, Giving, Chosen}
use Rattle.cv_pool.specs.declared.node.NodeId.{NodeId}
use Rattle.cv_syntax_trees.specs.Head.{weight}
use Rattle.cv_pool.specs.KindTree.{KindTree}
use Rattle.cv_syntax_trees.specs.Tree.{Tree, Empty, Node, chain}
use Rattle.cv_syntax.specs.PoolTrees.{tree_at}

-- the layout that a head has with as many children as it asks for
abbrev pub shape_of : Head → Layout
shape_of Par = Two
shape_of (Let x y) = Two
shape_of Eq = Two
shape_of And = Two
shape_of Or = Two
shape_of Not = One
shape_of If = Three
shape_of (Read x) = Listed
shape_of (Apply x) = Listed
shape_of (In x) = Taking
shape_of (Out x) = Giving
shape_of Branch = Chosen
shape_of h = Rest

-- whether so many children can be laid out like this
abbrev pub fits : Layout → ℕ → Bool
fits Lone n = n == 0
fits One n = n == 1
fits Two n = n == 2
fits Three n = n == 3
fits Listed n = true
fits Rest n = nat_lt 0 n
fits Taking n = nat_lt 0 n
fits Giving n = nat_lt 0 n
fits Chosen n = nat_lt 1 n

abbrev pub IsLaidOut : Layout → ℕ → Type 0
IsLaidOut Lone n = n ≡ 0
IsLaidOut One n = n ≡ 1
IsLaidOut Two n = n ≡ 2
IsLaidOut Three n = n ≡ 3
IsLaidOut Listed n = Unit {0}
IsLaidOut Rest n = 0 < n
IsLaidOut Taking n = 0 < n
IsLaidOut Giving n = 0 < n
IsLaidOut Chosen n = 1 < n

-- the layout of a node with so many children: where these are not as many as its head asks for, it is that of an event
abbrev pub layout_of : Head → ℕ → Layout
layout_of h n = if n == 0 then Lone else if fits (shape_of h) n then shape_of h else Rest

-- an item of a list, counted from 0; all items but the last one, and but the last two
abbrev pub item : List Tree → ℕ → Tree
item ts k = slice_index_or ts k Empty

abbrev pub all_but : ℕ → List Tree → List Tree
all_but n ts = take (length ts - n) ts

abbrev pub first_part : Layout → List Tree → Tree
first_part Lone ts = Empty
first_part One ts = item ts 0
first_part Two ts = item ts 0
first_part Three ts = item ts 0
first_part Listed ts = chain ts
first_part Rest ts = chain (all_but 1 ts)
first_part Taking ts = Node Cons (chain (all_but 1 ts)) Empty
first_part Giving ts = Node Cons Empty (chain (all_but 1 ts))
first_part Chosen ts = Empty

abbrev pub second_part : Layout → List Tree → Tree
second_part Lone ts = Empty
second_part One ts = Empty
second_part Two ts = item ts 1
second_part Three ts = Node Cons (item ts 1) (Node Cons (item ts 2) Empty)
second_part Listed ts = Empty
second_part Rest ts = item ts (length ts - 1)
second_part Taking ts = item ts (length ts - 1)
second_part Giving ts = item ts (length ts - 1)
second_part Chosen ts = Node Cons (chain (all_but 2 ts)) (Node Cons (item ts (length ts - 2)) (item ts (length ts - 1)))

-- a tree with this head and these children
abbrev pub arranged : Head → List Tree → Tree
arranged h ts = Node h (first_part (layout_of h (length ts)) ts) (second_part (layout_of h (length ts)) ts)

-- how many nodes the parts take, besides the children
abbrev pub first_cost : Layout → ℕ → ℕ
first_cost Listed n = n
first_cost Rest n = n - 1
first_cost Taking n = n
first_cost Giving n = n
first_cost l n = 0

abbrev pub second_cost : Layout → ℕ → ℕ
second_cost Three n = 2
second_cost Chosen n = n
second_cost l n = 0

-- the trees of nodes
abbrev pub trees_of : List KindTree → List NodeId → List Tree
trees_of trees ns = map (λ n. tree_at trees (Some n)) ns

-- a syntax node stands at the top
abbrev pub IsSyntax : Tree → Type 0
IsSyntax Empty = ⊥
IsSyntax (Node h a b) = weight h ≡ 1
