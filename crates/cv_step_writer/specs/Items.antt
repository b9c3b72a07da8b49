-- Trees by their items, as the table of scripts makes them: a node over its items, in the order of its text; a list is a chain.
use Rattle.std.specs.Prelude.{ℕ, List, [], ◌∷◌, map, Some}
use Rattle.cv_syntax_trees.specs.declared.head.Head.{Head}
use Rattle.cv_syntax_trees.specs.declared.head.Head.TheVariants.{Cons, Name, Number}
use Rattle.cv_syntax_trees.specs.Tree.{Tree, Empty, Node, chain, lone}
use Rattle.cv_syntax.specs.PoolTrees.{tree_at}
use Rattle.cv_pool.specs.KindTree.{KindTree}
use Rattle.cv_pool.specs.declared.node.NodeId.{NodeId}
use Rattle.cv_pool.specs.declared.names.names.NameId.{NameId}

-- items as one tree: a list whose end is the last one
abbrev pub single : List Tree → Tree
single [] = Empty
single (t ∷ []) = t
single (t ∷ (u ∷ ts)) = Node Cons t (single (u ∷ ts))

-- a node over its items: the first one, and the others
abbrev pub over : Head → List Tree → Tree
over h [] = lone h
over h (t ∷ ts) = Node h t (single ts)

abbrev pub number : ℕ → Tree
number n = lone (Number n)

abbrev pub name : NameId → Tree
name x = lone (Name x.0)

-- a term or a cell of the pool
abbrev pub term : List KindTree → NodeId → Tree
term trees n = tree_at trees (Some n)

abbrev pub numbers : List ℕ → Tree
numbers ns = chain (map number ns)

abbrev pub names : List NameId → Tree
names xs = chain (map name xs)

abbrev pub terms : List KindTree → List NodeId → Tree
terms trees ns = chain (map (term trees) ns)
