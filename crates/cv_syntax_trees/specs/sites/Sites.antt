-- The sites of a game's variables, and the parameters of its indices.
use Rattle.std.specs.Prelude.{ℕ, Bool, true, false, ◌||◌, ◌==◌, if◌then◌else◌, List, [], ◌∷◌, ◌++◌, Option, Some, None}
use Rattle.cv_syntax_trees.specs.declared.head.Head.{Head}
use Rattle.cv_syntax_trees.specs.declared.head.Head.TheVariants.{Repl, In, New, Let, Branch, Binder, Key, Call}
use Rattle.cv_syntax_trees.specs.Tree.{Tree, Empty, Node, second}
pub use Rattle.cv_syntax_trees.specs.lists.Options.{first_of}
use Rattle.cv_syntax_trees.specs.declared.sites.sort.Sort.{Sort}
use Rattle.cv_syntax_trees.specs.declared.sites.sort.Sort.TheVariants.{OfType, BelowParameter}

-- the parameters of a variable's indices, outermost first, and the sort of its values
pub record Variable : Type 0 where
  pub parameters : List ℕ
  pub sort : Sort

-- the sorts that binders give: indices, or values of types
abbrev pub binder_sort : Bool → ℕ → Sort
binder_sort true = BelowParameter
binder_sort false = OfType

-- the sort that a list of binders gives a name; of two binders of one name the first counts
unfoldable pub bound_sort : (ℕ → Sort) → ℕ → Tree → Option Sort
bound_sort sort x Empty = None
bound_sort sort x (Node (Binder y T) a b) = if y == x then Some (sort T) else bound_sort sort x b
bound_sort sort x (Node h a b) = bound_sort sort x b

-- the sort that a node defines a variable with: `new` and `let`, what an input binds, the indices of a branch
abbrev pub site_here : ℕ → Head → Tree → Option Sort
site_here x (New y T) a = if y == x then Some (OfType T) else None
site_here x (Let y T) a = if y == x then Some (OfType T) else None
site_here x (In c) a = bound_sort OfType x (second a)
site_here x Branch a = bound_sort BelowParameter x a
site_here x h a = None

abbrev pub at_parameters : List ℕ → Option Sort → Option Variable
at_parameters ps None = None
at_parameters ps (Some S) = Some (record { parameters = ps; sort = S })

-- the parameters of the replications above the continuation of a node
abbrev pub parameters_below : Head → List ℕ → List ℕ
parameters_below (Repl i n) ps = ps ++ n ∷ []
parameters_below h ps = ps

-- a variable by its first site in preorder, under replications with these parameters
unfoldable pub first_site : ℕ → List ℕ → Tree → Option Variable
first_site x ps Empty = None
first_site x ps (Node h a b) =
    first_of (at_parameters ps (site_here x h a)) (first_of (first_site x ps a) (first_site x (parameters_below h ps) b))

abbrev pub index_here : ℕ → Head → Option ℕ
index_here i (Repl j n) = if j == i then Some n else None
index_here i h = None

-- the parameter of the first replication in preorder that binds an index
unfoldable pub first_index : ℕ → Tree → Option ℕ
first_index i Empty = None
first_index i (Node h a b) = first_of (index_here i h) (first_of (first_index i a) (first_index i b))

-- the node defines the variable with no type: as a key, or as the result of a call
abbrev pub is_untyped_here : ℕ → Head → Bool
is_untyped_here x (Key y) = y == x
is_untyped_here x (Call y l) = y == x
is_untyped_here x h = false

-- so does a node of the tree
unfoldable pub is_untyped_in : ℕ → Tree → Bool
is_untyped_in x Empty = false
is_untyped_in x (Node h a b) = is_untyped_here x h || (is_untyped_in x a || is_untyped_in x b)

-- what a game's definitions say of names
pub record SitesView : Type 0 where
  pub variable : ℕ → Option Variable
  pub index : ℕ → Option ℕ
  -- which are variables with no type
  pub untyped : ℕ → Bool

abbrev pub sites_of : Tree → SitesView
sites_of t = record {
  variable = λ x. first_site x [] t;
  index = λ i. first_index i t;
  untyped = λ x. is_untyped_in x t;
}
