-- A branch over calls, as it stands first in a list. This profile's own.
use Rattle.std.specs.Prelude.{ℕ, List, Option, Some, None, option_map, option_and_then}
use Rattle.cv_pool.specs.KindTree.{KindTree}
use Rattle.cv_syntax.specs.declared.open.Opened.{Opened}
use Rattle.cv_syntax_trees.specs.declared.head.Head.TheVariants.{Branch, Cons, Binder}
use Rattle.cv_syntax_trees.specs.Tree.{Tree, Node}
use Rattle.cv_syntax.specs.PoolTrees.{tree_at}
use Rattle.cv_inline_sites.specs.declared.listing.branches.Calls.{Calls}

-- the first item of a list, and those behind it
abbrev pub cell_of : Tree → Option (Tree × Tree)
cell_of (Node Cons t more) = Some (t, more)
cell_of t = None

-- the children of a node, as trees
abbrev pub children_in : List KindTree → Opened → Tree × Tree
children_in trees o = (tree_at trees o.first, tree_at trees o.second)

abbrev pub first_binder : Tree → Option (ℕ × ℕ)
first_binder (Node (Binder x n) a b) = Some (x, n)
first_binder t = None

-- the first index of a branch, with its bound
abbrev pub binder_of : Tree → Option (ℕ × ℕ)
binder_of (Node Branch us rest) = first_binder us
binder_of t = None

-- the index of a list's first branch with its bound, and the branches behind
abbrev pub calls_of : Tree → Option ((ℕ × ℕ) × Tree)
calls_of t = option_and_then (λ c. option_map (λ b. (b, c.1)) (binder_of c.0)) (cell_of t)

abbrev pub calls_in : List KindTree → Calls → (ℕ × ℕ) × Tree
calls_in trees c = ((c.index, c.bound), tree_at trees c.behind)
