-- The branches of the finds of right bodies, by their parts. This profile's own.
use Rattle.std.specs.Prelude.{ℕ, List, Option, Some, None, option_and_then}
use Rattle.cv_pool.specs.KindTree.{KindTree}
use Rattle.cv_pool.specs.Nodes.{ChildBelow}
use Rattle.cv_syntax_trees.specs.declared.head.Head.TheVariants as head
use Rattle.cv_syntax_trees.specs.Tree.{Tree, Node}
use Rattle.cv_syntax.specs.PoolTrees.{tree_at}
use Rattle.cv_inline_sites.specs.declared.pairs.branches.Branch as code
use Rattle.cv_inline_sites.specs.declared.pairs.branches.Two.{Two}

-- a branch over one index, and the branches behind it
pub record Branch : Type 0 where
  pub index : ℕ
  pub bound : ℕ
  pub binders : Tree
  pub cells : Tree
  pub condition : Tree
  pub body : Tree
  pub more : Tree

abbrev pub item : Tree → Option (Tree × Tree)
item (Node head.Cons a b) = Some (a, b)
item _ = None

abbrev pub parts : Tree → Option (Tree × Tree)
parts (Node head.Branch a b) = Some (a, b)
parts _ = None

abbrev pub binder : Tree → Option (ℕ × ℕ)
binder (Node (head.Binder u n) x y) = Some (u, n)
binder _ = None

abbrev pub branch_of : Tree × Tree → Tree × Tree → ℕ × ℕ → Tree × Tree → Tree × Tree → Branch
branch_of l b i c m = record { index = i.0; bound = i.1; binders = b.0; cells = c.0; condition = m.0; body = m.1; more = l.1 }

abbrev pub first_branch : Tree → Option Branch
first_branch t =
    option_and_then (λ (l : Tree × Tree). option_and_then (λ (b : Tree × Tree). option_and_then (λ (i : ℕ × ℕ). option_and_then (λ (c : Tree × Tree). option_and_then (λ (m : Tree × Tree). Some (branch_of l b i c m)) (item c.1)) (item b.1)) (binder b.0)) (parts l.0)) (item t)

abbrev pub two_in : List KindTree → Two → Tree × Tree
two_in trees t = (tree_at trees t.first, tree_at trees t.second)

abbrev pub branch_in : List KindTree → code.Branch → Branch
branch_in trees b =
    record { index = b.index; bound = b.bound; binders = tree_at trees b.binders; cells = tree_at trees b.cells; condition = tree_at trees b.condition; body = tree_at trees b.body; more = tree_at trees b.more }

-- its parts are in the pool
pub record IsLiveBranch (live : ℕ) (b : code.Branch) : Type 0 where
  pub binders : ChildBelow live b.binders
  pub cells : ChildBelow live b.cells
  pub condition : ChildBelow live b.condition
  pub body : ChildBelow live b.body
  pub more : ChildBelow live b.more
