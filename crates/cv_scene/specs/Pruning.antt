-- Bodies that may go: of an `if` one of its two, of a `find` that of a branch. This profile's own.
use Rattle.std.specs.Prelude.{ℕ, zero, suc, ◌+◌, Option, Some, None, option_map}
use Rattle.cv_syntax_trees.specs.declared.head.Head.TheVariants as head
use Rattle.cv_syntax_trees.specs.declared.head.Head.TheVariants.{If, Find, Cons}
use Rattle.cv_syntax_trees.specs.Tree.{Tree, Empty, Node, first, first_place, second, second_place, size}

-- a body of an `if`, or that of a branch of a `find`, counted from 1
pub data Part : Type 0 where
  Then Else : Part
  Branch : (number : ℕ) → Part

-- a body by its place, and what is left of the construct without it
pub record Pruned : Type 0 where
  pub body : ℕ
  pub left : Tree

-- the place of the body of the k-th branch of a list that stands at a place, from 1
abbrev pub branch_body : (place : ℕ) → (branches : Tree) → (k : ℕ) → Option ℕ
branch_body p (Node Cons (Node head.Branch us rest) more) (suc zero) =
    Some (second_place (first_place p Cons) head.Branch us + size (first rest) + size (first (second rest)))
branch_body p (Node Cons branch more) (suc (suc k)) = branch_body (second_place p Cons branch) more (suc k)
branch_body p branches k = None

-- the branches but the k-th
abbrev pub without_branch : (branches : Tree) → (k : ℕ) → Tree
without_branch (Node h branch more) (suc zero) = more
without_branch (Node h branch more) (suc (suc k)) = Node h branch (without_branch more (suc k))
without_branch branches k = branches

-- a `find` without branches is its else body
abbrev pub find_of : (label : ℕ) → (branches else : Tree) → Tree
find_of l Empty e = e
find_of l branches e = Node (Find l) branches e

-- the construct stands at a place
abbrev pub pruned : (place : ℕ) → Tree → Part → Option Pruned
pruned p (Node If c (Node Cons t (Node Cons e n))) Then = Some (record { body = first_place (second_place p If c) Cons; left = e })
pruned p (Node If c (Node Cons t (Node Cons e n))) Else =
    Some (record { body = first_place (second_place (second_place p If c) Cons t) Cons; left = t })
pruned p (Node (Find l) branches e) (Branch k) =
    option_map (λ b. record { body = b; left = find_of l (without_branch branches k) e }) (branch_body (first_place p (Find l)) branches k)
pruned p t part = None
