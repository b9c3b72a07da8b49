-- What declarations and definitions say of a name that a term reads.
use Rattle.std.specs.Prelude.{ℕ, Bool, true, false, ◌==◌, if◌then◌else◌, List, [], ◌∷◌, length, option_map, Option, Some, None}
use Rattle.cv_syntax_trees.specs.declared.class.Class.TheVariants.{TypeName, Fun, Event as AnEvent}
use Rattle.cv_syntax_trees.specs.declared.head.Head.{Head}
use Rattle.cv_syntax_trees.specs.declared.head.Head.TheVariants.{Name, Leaf, Read, Apply, Eq, And, Or, Not, Yes, No, Event, Occurs, OccursOnce}
use Rattle.cv_syntax_trees.specs.Declarations.{Declaration, Named, Equiv}
use Rattle.cv_syntax_trees.specs.Tree.{Tree, Empty, Node, first}
use Rattle.cv_syntax_trees.specs.declared.sites.sort.Sort.{Sort}
use Rattle.cv_syntax_trees.specs.declared.sites.sort.Sort.TheVariants.{OfType, BelowParameter}
use Rattle.cv_syntax_trees.specs.sites.Sites.{SitesView, Variable, first_of}

abbrev pub boolean : Sort
boolean = OfType 0

-- declarations

pub record Function : Type 0 where
  pub arguments : List ℕ
  pub result : ℕ

abbrev pub is_of : ℕ → Declaration → Bool
is_of x (Named y class args result) = x == y
is_of x (Equiv y t) = x == y
is_of x d = false

-- the first declaration of a name
abbrev pub declaration_of : List Declaration → ℕ → Option Declaration
declaration_of [] x = None
declaration_of (d ∷ ds) x = if is_of x d then Some d else declaration_of ds x

-- the names of a list of names
unfoldable pub names_in : Tree → List ℕ
names_in Empty = []
names_in (Node (Name x) a b) = x ∷ names_in b
names_in (Node h a b) = []

-- a constant is a function without arguments
abbrev pub function_by : Option Declaration → Option Function
function_by (Some (Named f (Fun d) args (Some T))) = Some (record { arguments = names_in args; result = T })
function_by d = None

abbrev pub function_in : List Declaration → ℕ → Option Function
function_in ds f = function_by (declaration_of ds f)

-- the types of an event's arguments
abbrev pub event_by : Option Declaration → List ℕ
event_by (Some (Named e AnEvent args result)) = names_in args
event_by d = []

abbrev pub event_in : List Declaration → ℕ → List ℕ
event_in ds e = event_by (declaration_of ds e)

abbrev pub fixed_by : Option Declaration → Bool
fixed_by (Some (Named T (TypeName fixed large) args result)) = fixed
fixed_by d = false

abbrev pub is_fixed_in : List Declaration → ℕ → Bool
is_fixed_in ds T = fixed_by (declaration_of ds T)

-- arrays

-- What is read at indices, and what definitions say of a name: the variables of a game, or on a side of an equivalence
-- what the function with a bound binds, and what that function binds whose body this is; equations and queries have no
-- arrays.
pub data Arrays : Type 0 where
  OfGame : SitesView → Arrays
  OfSide : (by_bound : ℕ → ℕ → Option Sort) → (own : ℕ → Option Sort) → Arrays
  OfNothing : Arrays

abbrev pub variable_in : Arrays → ℕ → Option Variable
variable_in (OfGame sites) x = sites.variable x
variable_in arrays x = None

-- the sort of a game's variable
abbrev pub variable_sort : Arrays → ℕ → Option Sort
variable_sort arrays x = option_map (λ (v : Variable). v.sort) (variable_in arrays x)

-- the sort that definitions give a name: of a game's variable, or of a name of the function whose body this is
abbrev pub defined_sort : Arrays → ℕ → Option Sort
defined_sort (OfGame sites) x = variable_sort (OfGame sites) x
defined_sort (OfSide by_bound own) x = own x
defined_sort OfNothing x = None

-- the parameter of an index that no replication above binds
abbrev pub index_in : Arrays → ℕ → Option ℕ
index_in (OfGame sites) i = sites.index i
index_in arrays i = None

-- what a term may name
pub record Signature : Type 0 where
  pub declarations : List Declaration
  pub arrays : Arrays

-- the sorts of the names that are bound above and are read without indices
abbrev pub Above : Type 0
Above = ℕ → Option Sort

-- the bound over which an index term ranges
abbrev pub bound_over : Option Sort → Option ℕ
bound_over (Some (BelowParameter n)) = Some n
bound_over S = None

abbrev pub bound_of_term : Above → Tree → Option ℕ
bound_of_term above (Node (Leaf u) a b) = bound_over (above u)
bound_of_term above t = None

abbrev pub sort_at_bound : (ℕ → ℕ → Option Sort) → ℕ → Option ℕ → Option Sort
sort_at_bound by_bound x None = None
sort_at_bound by_bound x (Some m) = by_bound m x

-- sorts of terms

-- a bare name is a name bound above, a name with a definition, a function, or an index out of its scope
abbrev pub leaf_sort : Signature → Above → ℕ → Option Sort
leaf_sort e above x =
    first_of (above x)
    (first_of (defined_sort e.arrays x)
    (first_of (option_map (λ (f : Function). OfType f.result) (function_in e.declarations x))
    (option_map BelowParameter (index_in e.arrays x))))

-- a name at these indices
abbrev pub read_sort : Arrays → Above → ℕ → Tree → Option Sort
read_sort (OfGame sites) above x indices = variable_sort (OfGame sites) x
read_sort (OfSide by_bound own) above x indices = sort_at_bound by_bound x (bound_of_term above (first indices))
read_sort OfNothing above x indices = above x

-- The sort of a term by its head and its first child. Nothing is known of a name that is defined nowhere.
abbrev pub sort_by : Signature → Above → Head → Tree → Option Sort
sort_by e above (Leaf x) a = leaf_sort e above x
sort_by e above (Read x) a = read_sort e.arrays above x a
sort_by e above (Apply f) a = option_map (λ (f : Function). OfType f.result) (function_in e.declarations f)
sort_by e above Eq a = Some boolean
sort_by e above And a = Some boolean
sort_by e above Or a = Some boolean
sort_by e above Not a = Some boolean
sort_by e above Yes a = Some boolean
sort_by e above No a = Some boolean
sort_by e above h a = None

abbrev pub sort_of : Signature → Above → Tree → Option Sort
sort_of e above Empty = None
sort_of e above (Node h a b) = sort_by e above h a

-- numbers of arguments and indices

abbrev pub leaf_arity : Signature → Above → ℕ → Option ℕ
leaf_arity e above x = elim (above x) [
  | Some S ↦ None
  | None ↦ first_of (option_map (λ (v : Variable). length v.parameters) (variable_in e.arrays x)) (option_map (λ (f : Function). length f.arguments) (function_in e.declarations x))
]

-- how many indices a name takes: on a side the one that names a call
abbrev pub read_arity : Arrays → ℕ → Option ℕ
read_arity (OfGame sites) x = option_map (λ (v : Variable). length v.parameters) (sites.variable x)
read_arity (OfSide by_bound own) x = Some 1
read_arity OfNothing x = Some 0

-- how many arguments or indices a node takes, where that is known
abbrev pub arity_by : Signature → Above → Head → Option ℕ
arity_by e above (Leaf x) = leaf_arity e above x
arity_by e above (Read x) = read_arity e.arrays x
arity_by e above (Apply f) = option_map (λ (f : Function). length f.arguments) (function_in e.declarations f)
arity_by e above (Event v) = Some (length (event_in e.declarations v))
arity_by e above (Occurs v) = Some (length (event_in e.declarations v))
arity_by e above (OccursOnce v) = Some (length (event_in e.declarations v))
arity_by e above h = None

abbrev pub is_arity : Option ℕ → ℕ → Bool
is_arity None n = true
is_arity (Some m) n = m == n
