-- Trees that are to be built, by lists of their parts, each behind its children. This profile's own.
use Rattle.std.specs.Prelude.{ℕ, ◌+◌, All, List, [], ◌∷◌}
use Rattle.cv_pool.specs.KindTree.{KindTree}
use Rattle.cv_pool.specs.Nodes.{ChildBelow}
use Rattle.cv_syntax_trees.specs.declared.head.Head.{Head}
use Rattle.cv_syntax_trees.specs.Tree.{Tree, Empty, depth, size}
use Rattle.cv_syntax.specs.PoolTrees.{tree_at}
use Rattle.cv_syntax.specs.Postorder.{joined}
use Rattle.cv_syntax.specs.declared.limits.games.Extent.{Extent}
use Rattle.cv_edit_places.specs.declared.parts.Part.{Part}
use Rattle.cv_edit_places.specs.declared.parts.Part.TheVariants.{There, Over}
use Rattle.cv_edit_places.specs.declared.parts.Parts.{Parts}

-- the trees with a part more, the newest first
abbrev pub laid : List KindTree → Part → List Tree → List Tree
laid trees (There n) stack = tree_at trees n ∷ stack
laid trees (Over h) stack = joined h stack

-- the trees that a list makes on top of those that are there
unfoldable pub stacked : List KindTree → List Tree → List Part → List Tree
stacked trees stack [] = stack
stacked trees stack (p ∷ ps) = stacked trees (laid trees p stack) ps

abbrev pub stack_of : List KindTree → Parts → List Tree
stack_of trees ps = stacked trees [] ps.items.items

-- the newest tree
abbrev pub top_of : List Tree → Tree
top_of [] = Empty
top_of (t ∷ ts) = t

-- nodes over the newest trees, the newest head first
abbrev pub closed : List Head → List Tree → List Tree
closed [] stack = stack
closed (h ∷ hs) stack = joined h (closed hs stack)

-- how many nodes a list makes

abbrev pub over_by : Part → ℕ
over_by (There n) = 0
over_by (Over h) = 1

unfoldable pub overs : List Part → ℕ
overs [] = 0
overs (p ∷ ps) = over_by p + overs ps

abbrev pub made_by : Parts → ℕ
made_by ps = overs ps.items.items

-- the trees that are said to be there are

abbrev pub IsLivePart : ℕ → Part → Type 0
IsLivePart n (There m) = ChildBelow n m
IsLivePart n (Over h) = Unit {0}

abbrev pub AreLive : ℕ → Parts → Type 0
AreLive n ps = All (IsLivePart n) ps.items.items

-- how large a tree is, as the code has it
abbrev pub extent_of : Tree → Extent
extent_of t = record { nodes = size t; depth = depth t }

-- how large trees are together
abbrev pub total_of : List Tree → ℕ
total_of [] = 0
total_of (t ∷ ts) = size t + total_of ts
