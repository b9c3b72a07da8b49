-- Calls that were made under a key, as a find of a body asks for them. This profile's own.
use Rattle.std.specs.Prelude.{◌≡◌, ℕ, Bool, true, false, ◌&&◌, ◌||◌, ◌==◌, is_some}
use Rattle.cv_syntax_trees.specs.declared.head.Head.TheVariants.{Leaf, Read, Binder}
use Rattle.cv_syntax_trees.specs.Tree.{Tree, Empty, Node, first}
use Rattle.cv_meaning.specs.Side.{CallNumber}
use Rattle.cv_meaning.specs.contexts.Frames.{Frame}

-- a call that has assigned a name, at this call's key
abbrev pub WasMade : Frame → CallNumber → Type 0
WasMade e n = (v : ℕ) × (is_some (e.arrays v e.key n) ≡ true)

abbrev pub is_index : ℕ → Tree → Bool
is_index u (Node (Leaf x) a b) = u == x
is_index u _ = false

-- whether a list has a cell v[u]
abbrev pub has_cell_at : ℕ → Tree → Bool
has_cell_at u (Node h (Node (Read v) a b) more) = is_index u (first a) || has_cell_at u more
has_cell_at u (Node h a more) = has_cell_at u more
has_cell_at u Empty = false

-- whether the list of each branch has a cell at the branch's index
abbrev pub have_own_cells : Tree → Bool
have_own_cells (Node h (Node k (Node (Binder u n) a b) rest) more) = has_cell_at u (first rest) && have_own_cells more
have_own_cells (Node h branch more) = have_own_cells more
have_own_cells Empty = true
