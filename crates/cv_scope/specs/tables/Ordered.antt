-- Lists that are searched by a table or by their order.
use Rattle.std.specs.Prelude.{◌≡◌, ◌≤◌, ℕ, Bool, false, nat_eq, List, slice_get, slice_index_or, Option, Some, None}
use Rattle.std.specs.List.{list_any}
use Rattle.std.specs.declared.hash.FoldHasher.{FoldHasher}
use Rattle.std.specs.declared.hash.BuildHasherDefault.{BuildHasherDefault}
use Rattle.std.specs.HashMap.{get, HashMap}
use Rattle.cv_pool.specs.declared.node.NodeId.{NodeId}
use Rattle.cv_scope.specs.declared.tables.places.Places.{Places}
use Rattle.cv_scope.specs.tables.Places.{place_of}

abbrev pub MapFrom : Type 0 → Type 0 → Type 0
MapFrom K X = HashMap K X (BuildHasherDefault FoldHasher)

-- each pair of a list has its place in a table; a pair that no longer is in the list may have one too
abbrev pub IsPlaced : List (ℕ × ℕ) → Places → Type 0
IsPlaced ds places = (k : ℕ) (d : ℕ × ℕ) → slice_get ds k ≡ Some d → place_of places d ≡ Some k

-- a cell is the node with this number
abbrev pub is_node : ℕ → Option NodeId → Bool
is_node n None = false
is_node n (Some k) = nat_eq n k.0

-- a cell of the list is the node with this number
abbrev pub has_number : List (Option NodeId) → ℕ → Bool
has_number cells n = list_any (is_node n) cells

-- up to a place of the list a cell is the node with this number, and the table has its place
pub record IsPlacedBy (cells : List (Option NodeId)) (places : MapFrom ℕ ℕ) (k n : ℕ) : Type 0 where
  pub place : ℕ
  pub node : NodeId
  pub known : get nat_eq places n ≡ Some place
  pub before : place ≤ k
  pub there : slice_index_or cells place None ≡ Some node
  pub same : node.0 ≡ n

-- the number of each cell has a place in a table; a number that no cell of the list has may have one too
abbrev pub AreNumbersPlaced : List (Option NodeId) → MapFrom ℕ ℕ → Type 0
AreNumbersPlaced cells places = (k : ℕ) (c : NodeId) → slice_index_or cells k None ≡ Some c → IsPlacedBy cells places k c.0
