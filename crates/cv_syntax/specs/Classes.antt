-- What a list of declarations says of a name.
use Rattle.std.specs.Prelude.{◌≡◌, ℕ, zero, suc, Bool, false, ◌==◌, if◌then◌else◌, List, [], ◌∷◌, Option, Some, None, slice_get, option_and_then}
use Rattle.cv_syntax_trees.specs.declared.class.Class.{Class}
use Rattle.cv_syntax_trees.specs.declared.class.Class.TheVariants as class
use Rattle.cv_syntax.specs.declared.decls.Decl.{Decl}
use Rattle.cv_syntax.specs.declared.decls.Decl.TheVariants as decl
use Rattle.cv_pool.specs.declared.names.names.NameId.{NameId}
use Rattle.cv_pool.specs.declared.node.NodeId.{NodeId}

-- what a contract sees of the declarations of a file
pub record DeclsView : Type 0 where
  pub list : List Decl
  pub own : ℕ

-- the number of the name that a declaration declares
abbrev pub id_of : Decl → Option ℕ
id_of (decl.Name id class args result) = Some id.0
id_of (decl.Equation n) = None
id_of (decl.Equiv id n) = Some id.0
id_of (decl.Query n) = None

abbrev pub is_number : ℕ → Option ℕ → Bool
is_number x None = false
is_number x (Some y) = x == y

-- the first declaration of a name
abbrev pub declaration_in : List Decl → ℕ → Option Decl
declaration_in [] x = None
declaration_in (d ∷ ds) x = if is_number x (id_of d) then Some d else declaration_in ds x

abbrev pub class_by : Option Decl → Class
class_by (Some (decl.Name id class args result)) = class
class_by (Some (decl.Equiv id n)) = class.Equiv
class_by _ = class.Free

abbrev pub result_by : Option Decl → Option NameId
result_by (Some (decl.Name id class args result)) = result
result_by _ = None

abbrev pub args_by : Option Decl → Option NodeId
args_by (Some (decl.Name id class args result)) = args
args_by _ = None

abbrev pub equiv_by : Option Decl → Option NodeId
equiv_by (Some (decl.Equiv id n)) = Some n
equiv_by _ = None

-- what a name is: free where nothing declares it
abbrev pub class_in : List Decl → ℕ → Class
class_in ds x = class_by (declaration_in ds x)

abbrev pub result_in : List Decl → ℕ → Option NameId
result_in ds x = result_by (declaration_in ds x)

-- the list of the types of a name's arguments
abbrev pub args_in : List Decl → ℕ → Option NodeId
args_in ds x = args_by (declaration_in ds x)

abbrev pub equiv_in : List Decl → ℕ → Option NodeId
equiv_in ds x = equiv_by (declaration_in ds x)

-- the equations and the queries, in order
abbrev pub equations : List Decl → List NodeId
equations [] = []
equations (decl.Equation n ∷ ds) = n ∷ equations ds
equations (d ∷ ds) = equations ds

abbrev pub queries : List Decl → List NodeId
queries [] = []
queries (decl.Query n ∷ ds) = n ∷ queries ds
queries (d ∷ ds) = queries ds

-- the tree of a query
abbrev pub query_of : Decl → Option NodeId
query_of (decl.Query n) = Some n
query_of d = None

-- the item of a list at a place that is counted from 1
abbrev pub from_one : List NodeId → ℕ → Option NodeId
from_one ns zero = None
from_one ns (suc k) = slice_get ns k

-- no declaration is of a class that no declaration of a name has
abbrev pub IsNamed : Decl → Type 0
IsNamed (decl.Name id class.Equiv args result) = ⊥
IsNamed (decl.Name id class.Free args result) = ⊥
IsNamed d = Unit {0}

-- no declaration before has the name of this one
abbrev pub IsNew : List Decl → Decl → Type 0
IsNew ds (decl.Name id class args result) = declaration_in ds id.0 ≡ None
IsNew ds (decl.Equiv id n) = declaration_in ds id.0 ≡ None
IsNew ds d = Unit {0}

-- the name that is declared at a place
abbrev pub id_at : List Decl → ℕ → Option ℕ
id_at ds k = option_and_then id_of (slice_get ds k)

-- Each declared name has its place in the index, which holds places by the numbers of names. A name that is not declared
-- may have one too.
abbrev pub IsIndexed : List Decl → List ℕ → Type 0
IsIndexed ds index = (k x : ℕ) → id_at ds k ≡ Some x → slice_get index x ≡ Some k
