-- Trees of the calculus: one binary tree with named heads, for games, declarations, steps and contexts.
-- The continuation of a construct is its second child. A list is a chain of `Cons`.
use Rattle.std.specs.Prelude.{ℕ, zero, suc, ◌+◌, ◌-◌, max, Bool, true, false, ◌&&◌, ◌||◌, ◌==◌, nat_lt, if◌then◌else◌, List, [], ◌∷◌, ◌++◌, Option, Some, None}
use Rattle.cv_syntax_trees.specs.declared.head.Head.{Head}
use Rattle.cv_syntax_trees.specs.declared.head.Head.TheVariants.{Cons, Binder, Name, Leaf, Read}
use Rattle.cv_syntax_trees.specs.Head.{weight, same_head}

pub data Tree : Type 0 where
  Empty : Tree
  Node : (head : Head) → (first second : Tree) → Tree

abbrev pub first : Tree → Tree
first Empty = Empty
first (Node h a b) = a

abbrev pub second : Tree → Tree
second Empty = Empty
second (Node h a b) = b

-- a tree without children
abbrev pub lone : Head → Tree
lone h = Node h Empty Empty

-- lists of trees, of names, and of variables with their types
abbrev pub chain : List Tree → Tree
chain [] = Empty
chain (t ∷ ts) = Node Cons t (chain ts)

abbrev pub names : List ℕ → Tree
names [] = Empty
names (x ∷ xs) = Node (Name x) Empty (names xs)

abbrev pub name_in : Head → Option ℕ
name_in (Name x) = Some x
name_in h = None

-- the name at a place, counted from 0, of a list of names
unfoldable pub name_at : Tree → ℕ → Option ℕ
name_at Empty k = None
name_at (Node h a b) zero = name_in h
name_at (Node h a b) (suc k) = name_at b k

abbrev pub binders : List (ℕ × ℕ) → Tree
binders [] = Empty
binders (b ∷ bs) = Node (Binder b.0 b.1) Empty (binders bs)

-- the variables of a list of binders
abbrev pub bound_names : Tree → List ℕ
bound_names (Node (Binder x T) a b) = x ∷ bound_names b
bound_names _ = []

-- how many syntax nodes a tree has
unfoldable pub size : Tree → ℕ
size Empty = 0
size (Node h a b) = weight h + size a + size b

-- how many syntax nodes the longest path has
unfoldable pub depth : Tree → ℕ
depth Empty = 0
depth (Node h a b) = weight h + max (depth a) (depth b)

-- the places of the children of a node that stands at a place; a place is a preorder number
abbrev pub first_place : ℕ → Head → ℕ
first_place p h = p + weight h

abbrev pub second_place : ℕ → Head → Tree → ℕ
second_place p h a = p + weight h + size a

-- the subtree at a place
unfoldable pub subtree : Tree → ℕ → Option Tree
subtree Empty p = None
subtree (Node h a b) p = if nat_lt p (weight h) then Some (Node h a b) else if nat_lt p (weight h + size a) then subtree a (p - weight h) else subtree b (p - (weight h + size a))

-- the syntax nodes at the top of a tree, in order: lists and binders are looked through
unfoldable pub tops : Tree → List Tree
tops Empty = []
tops (Node h a b) = if weight h == 1 then Node h a b ∷ [] else tops a ++ tops b

-- the children of a syntax node, in order
abbrev pub children : Tree → List Tree
children t = tops (first t) ++ tops (second t)

unfoldable pub same_tree : Tree → Tree → Bool
same_tree Empty Empty = true
same_tree (Node h a b) (Node k c d) = same_head h k && (same_tree a c && same_tree b d)
same_tree _ _ = false

-- every variable that is read passes
abbrev pub head_reads_only : (ℕ → Bool) → Head → Bool
head_reads_only on (Leaf x) = on x
head_reads_only on (Read x) = on x
head_reads_only on _ = true

unfoldable pub reads_only : (ℕ → Bool) → Tree → Bool
reads_only on Empty = true
reads_only on (Node h a b) = head_reads_only on h && (reads_only on a && reads_only on b)

-- whether a list of binders in the tree binds the variable
abbrev pub head_binds : Head → ℕ → Bool
head_binds (Binder x T) y = y == x
head_binds h y = false

unfoldable pub binds : Tree → ℕ → Bool
binds Empty y = false
binds (Node h a b) y = head_binds h y || (binds a y || binds b y)
