-- What is seen of each name of a game while its definitions, its reads and its cells are noted one after another. This profile's own.
use Rattle.std.specs.Prelude.{ℕ, ◌+◌, min, nat_eq, Bool, false, ◌||◌, ◌==◌, if◌then◌else◌, List, [], ◌∷◌, ◌++◌, Option, Some, None, unwrap_or}
use Rattle.std.specs.HashMap.{get}
use Rattle.cv_pool.specs.declared.node.NodeId.{NodeId}
use Rattle.cv_settling_overview.specs.declared.variables.Site.{Site}
use Rattle.cv_settling_overview.specs.declared.variables.Site.TheVariants.{Assignment, Index, Received, Restriction}
use Rattle.cv_settling_overview.specs.declared.variables.Variable.{Variable}
use Rattle.cv_settling_overview.specs.declared.variables.Variables.{Variables}

abbrev pub nothing : Variable
nothing = record { sites = 0; restrictions = 0; term = None; of_type = None; indices = 0; reads = 0; cells = 0; in_condition = false }

-- what a table has of a name
abbrev pub seen_of : Variables → ℕ → Variable
seen_of v x = unwrap_or (get nat_eq v.table x) nothing

-- one more, as far as 32 bits count
abbrev pub more : ℕ → ℕ
more n = min (n + 1) 4294967295

-- a definition: the type of its values, its term where it is a `let`, and whether it is a `new`

abbrev pub type_of : Site → Option ℕ
type_of (Restriction T) = Some T
type_of (Assignment T m) = Some T
type_of (Received T) = Some T
type_of Index = None

abbrev pub term_of : Site → Option NodeId
term_of (Assignment T m) = m
term_of site = None

abbrev pub with_choice : Site → ℕ → ℕ
with_choice (Restriction T) n = more n
with_choice site n = n

-- with one more definition, below so many indices; read once more; and once more a cell

abbrev pub with_site : Site → (indices : ℕ) → Variable → Variable
with_site site n v =
    record v {
      sites = more v.sites;
      restrictions = with_choice site v.restrictions;
      term = term_of site;
      of_type = type_of site;
      indices = n;
    }

abbrev pub with_read : (in_condition : Bool) → Variable → Variable
with_read c v = record v { reads = more v.reads; in_condition = v.in_condition || c }

abbrev pub with_cell : Variable → Variable
with_cell v = record v { cells = more v.cells }

-- at one name alone
abbrev pub with_change : ℕ → (Variable → Variable) → (ℕ → Variable) → ℕ → Variable
with_change x change seen y = if x == y then change (seen y) else seen y

-- a name that had no definition comes behind the others
abbrev pub order_with : ℕ → Variable → List ℕ → List ℕ
order_with x v xs = if v.sites == 0 then xs ++ x ∷ [] else xs
