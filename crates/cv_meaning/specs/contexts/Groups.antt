-- The two sides of an equivalence, read from its tree: the key, and functions in order.
-- Blanchet and Pointcheval, CRYPTO 2006. That a side has one group with one key is this profile's own.
use Rattle.std.specs.Prelude.{ℕ, List, [], ◌∷◌, slice_get, Option, Some, None}
use Rattle.cv_syntax_trees.specs.declared.head.Head.TheVariants.{Bound, Single}
use Rattle.cv_syntax_trees.specs.Tree.{Tree, Empty, Node, first, second}
use Rattle.cv_meaning.specs.Correspondences.{typed_names}

pub data Which : Type 0 where
  Left Right : Which

-- a function; variables stand with their types
pub record Function : Type 0 where
  pub index : Option ℕ  -- of its replication
  pub bound : ℕ  -- of its replication; without one it is the function's own name
  pub coins : List (ℕ × ℕ)  -- chosen for each call; on the right they stand at the front of the body
  pub arguments : List (ℕ × ℕ)
  pub body : Tree

pub record Group : Type 0 where
  pub key : ℕ × ℕ
  pub functions : List Function

-- the index and the bound of a function's replication
abbrev pub index_of : Tree → Option ℕ
index_of (Node (Bound i n) a b) = Some i
index_of _ = None

abbrev pub bound_of : Tree → ℕ
bound_of (Node (Bound i n) a b) = n
bound_of (Node (Single f) a b) = f
bound_of _ = 0

-- a function's node: its replication over its coins and arguments, and its body
abbrev pub function_of : Tree → Function
function_of f =
    record { index = index_of (first f); bound = bound_of (first f); coins = typed_names (first (first f)); arguments = typed_names (second (first f)); body = second f }

abbrev pub functions_of : Tree → List Function
functions_of Empty = []
functions_of (Node h f more) = function_of f ∷ functions_of more

abbrev pub key_of : List (ℕ × ℕ) → ℕ × ℕ
key_of [] = (0, 0)
key_of (k ∷ ks) = k

-- a group's node: its key, and its functions
abbrev pub group_of : Tree → Group
group_of g = record { key = key_of (typed_names (first g)); functions = functions_of (second g) }

abbrev pub side_tree : Which → Tree → Tree
side_tree Left equivalence = first equivalence
side_tree Right equivalence = second equivalence

-- the group of a side
abbrev pub side_group : Which → Tree → Group
side_group which equivalence = group_of (side_tree which equivalence)

-- the function at a position, from 0
abbrev pub function_at : Group → ℕ → Option Function
function_at g k = slice_get g.functions k
