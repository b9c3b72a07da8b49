-- How what was heard is declared. This profile's own.
use Rattle.std.specs.Prelude.{◌≡◌, ℕ, ◌<◌, true, false, List, [], ◌∷◌, Option, Some, None, option_map}
use Rattle.cv_syntax.specs.declared.decls.Decl.{Decl}
use Rattle.cv_syntax.specs.declared.decls.Decl.TheVariants as decl
use Rattle.cv_syntax_trees.specs.declared.class.Class.TheVariants.{TypeName}
use Rattle.cv_pool.specs.declared.names.names.NameId.{NameId}
use Rattle.cv_pool.specs.declared.node.NodeId.{NodeId}
use Rattle.cv_pool.specs.Nodes.{ChildBelow}
use Rattle.cv_parse_declarations.specs.declared.signature.heard.Heard.{Heard}
use Rattle.cv_parse_declarations.specs.declared.signature.heard.Heard.TheVariants as heard
use Rattle.cv_parse_declarations.specs.signature.Declares.{is_of_name}

-- the declaration of `bool`, whose name is number 0
abbrev pub bool_decl : Decl
bool_decl = decl.Name (record { 0 = 0 }) (TypeName true false) None None

abbrev pub named_by : ℕ → NameId
named_by x = record { 0 = x }

-- a tree that is there
abbrev pub or_first : Option NodeId → NodeId
or_first None = record { 0 = 0 }
or_first (Some n) = n

-- what is declared, of which this was heard, with the tree at a node
abbrev pub decl_of : Heard → Option NodeId → Decl
decl_of (heard.Named id class sort) root = decl.Name (named_by id) class root (option_map named_by sort)
decl_of heard.Equation root = decl.Equation (or_first root)
decl_of (heard.Equiv id) root = decl.Equiv (named_by id) (or_first root)
decl_of heard.Query root = decl.Query (or_first root)

-- the same one by one
unfoldable pub all_decls : List Heard → List (Option NodeId) → List Decl
all_decls (h ∷ hs) (r ∷ rs) = decl_of h r ∷ all_decls hs rs
all_decls _ _ = []

-- the names that are declared
abbrev pub names_by : Heard → List ℕ
names_by (heard.Named id class sort) = id ∷ []
names_by heard.Equation = []
names_by (heard.Equiv id) = id ∷ []
names_by heard.Query = []

abbrev pub names_of : Decl → List ℕ
names_of (decl.Name id class args result) = id.0 ∷ []
names_of (decl.Equation n) = []
names_of (decl.Equiv id n) = id.0 ∷ []
names_of (decl.Query n) = []

-- the class is one of a declared name
abbrev pub IsNameable : Heard → Type 0
IsNameable (heard.Named id class sort) = is_of_name class ≡ true
IsNameable h = Unit {0}

-- a declaration whose tree is below a bound
abbrev pub IsBelow : ℕ → Decl → Type 0
IsBelow bound (decl.Name id class args result) = ChildBelow bound args
IsBelow bound (decl.Equation n) = n.0 < bound
IsBelow bound (decl.Equiv id n) = n.0 < bound
IsBelow bound (decl.Query n) = n.0 < bound
