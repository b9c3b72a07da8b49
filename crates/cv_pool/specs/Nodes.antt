-- Entries of a pool, and the trees that their numbers stand for.
use Rattle.std.specs.Prelude.{ℕ, ◌≡◌, ◌+◌, ◌<◌, List, [], ◌∷◌, ◌++◌, Option, Some, None, length, slice_index_or}
use Rattle.cv_pool.specs.declared.node.Entry.{Entry}
use Rattle.cv_pool.specs.declared.node.NodeId.{NodeId}
use Rattle.cv_pool.specs.KindTree.{KindTree, NoTree, Fork}

-- the tree at a number, or none
abbrev pub at : List KindTree → ℕ → KindTree
at trees n = slice_index_or trees n NoTree

-- the tree of a child
abbrev pub child : List KindTree → Option NodeId → KindTree
child trees None = NoTree
child trees (Some n) = at trees n.0

-- the tree of an entry over those that are there
abbrev pub tree_of : List KindTree → Entry → KindTree
tree_of done c = Fork c.kind (child done c.first) (child done c.second)

-- the trees of entries, each over those before it
abbrev pub built : List KindTree → List Entry → List KindTree
built done [] = done
built done (c ∷ cs) = built (done ++ tree_of done c ∷ []) cs

-- a child has a smaller number
abbrev pub ChildBelow : ℕ → Option NodeId → Type 0
ChildBelow i None = Unit {0}
ChildBelow i (Some n) = n.0 < i

-- each child of an entry has a smaller number
pub record EntryBelow (i : ℕ) (c : Entry) : Type 0 where
  pub first : ChildBelow i c.first
  pub second : ChildBelow i c.second

-- entries whose numbers start here have children of smaller numbers
abbrev pub IsClosed : ℕ → List Entry → Type 0
IsClosed i [] = Unit {0}
IsClosed i (c ∷ cs) = EntryBelow i c × IsClosed (i + 1) cs

-- live nodes with equal trees have equal numbers
pub record AreDistinct (trees : List KindTree) : Type 0 where
  pub same : (m n : ℕ) → m < length trees → n < length trees → at trees m ≡ at trees n → m ≡ n
