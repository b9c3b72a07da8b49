-- What the tables of the code hold.
use Rattle.std.specs.Prelude.{Bool, false, ◌||◌, ◌==◌, All, IsNone, ◌↔◌, ◌+◌, ◌≡◌, ◌<◌, ℕ, length, map, take, ◌++◌, List, [], ◌∷◌, nat_eq, slice_index_or, option_map, Option, Some, None, is_some}
use Rattle.std.specs.HashMap.{get}
use Rattle.cv_pool.specs.KindTree.{KindTree}
use Rattle.cv_pool.specs.Nodes.{ChildBelow}
use Rattle.cv_pool.specs.declared.node.NodeId.{NodeId}
use Rattle.cv_syntax_trees.specs.declared.class.Class.TheVariants.{Fun}
use Rattle.cv_syntax.specs.declared.decls.Decl.{Decl}
use Rattle.cv_syntax_trees.specs.Declarations.{Declaration, Named}
use Rattle.cv_syntax.specs.Declarations.{declared}
use Rattle.cv_syntax_trees.specs.declared.head.Head.{Head}
use Rattle.cv_scope_rules.specs.declared.position.Position.{Position}
use Rattle.cv_syntax.specs.declared.open.Opened.{Opened}
use Rattle.cv_syntax_trees.specs.Tree.{Tree, Empty, Node}
use Rattle.cv_syntax.specs.PoolTrees.{tree_at}
use Rattle.cv_syntax.specs.Walks.{above}
use Rattle.cv_meaning.specs.Binders.{bound_names}
use Rattle.cv_scope.specs.declared.binders.FirstBinder.{FirstBinder}
use Rattle.cv_directory.specs.Tables.{seen}
use Rattle.cv_scope.specs.declared.names.NameKinds.{NameKinds}
use Rattle.cv_scope_rules.specs.Rules.{Names}
use Rattle.cv_scope.specs.declared.enter.Marks.{Marks}
use Rattle.cv_scope.specs.declared.state.State.{State}
use Rattle.cv_scope.specs.Seen.{Seen, behind, with_sites}
use Rattle.cv_scope.specs.declared.lasts.LastSite.{LastSite}
use Rattle.cv_scope.specs.declared.lasts.Lasts.{Lasts}
use Rattle.cv_scope_rules.specs.Sites.{Site, SiteName, Variable, Channel, Label, bound_types}

-- sites

abbrev pub site_held : List KindTree → SiteName → LastSite → Site
site_held trees name s = record { name = name; replications = s.replications.items; types = bound_types (tree_at trees s.binders); place = s.place }

-- the last site of a name, in a row of them
abbrev pub last_at : List (Option LastSite) → ℕ → Option LastSite
last_at ss x = slice_index_or ss x None

-- the last sites that a table holds
abbrev pub last_held : List KindTree → Lasts → SiteName → Option Site
last_held trees l (Variable x) = option_map (site_held trees (Variable x)) (last_at l.variables.items x)
last_held trees l (Channel c) = option_map (site_held trees (Channel c)) (last_at l.channels.items c)
last_held trees l (Label n) = option_map (site_held trees (Label n)) (get nat_eq l.labels n)

-- each site has live binders

abbrev pub IsLiveSite : ℕ → Option LastSite → Type 0
IsLiveSite n None = Unit {0}
IsLiveSite n (Some s) = ChildBelow n s.binders

abbrev pub HasLiveBinders : ℕ → Lasts → Type 0
HasLiveBinders n l =
    ((x : ℕ) → IsLiveSite n (last_at l.variables.items x))
    × ((c : ℕ) → IsLiveSite n (last_at l.channels.items c))
    × ((m : ℕ) → IsLiveSite n (get nat_eq l.labels m))

-- binders

abbrev pub IsFirstBinder : List KindTree → Option NodeId → Option FirstBinder → Type 0
IsFirstBinder trees list None = (bound_names (tree_at trees list) ≡ []) × (bound_types (tree_at trees list) ≡ [])
IsFirstBinder trees list (Some b) =
    (bound_names (tree_at trees list) ≡ b.name ∷ bound_names (tree_at trees b.rest))
    × (bound_types (tree_at trees list) ≡ b.class ∷ bound_types (tree_at trees b.rest))
    × ChildBelow (length trees) b.rest
    × (above b.rest < above list)

-- which names are constants and variables
abbrev pub names_held : NameKinds → Names
names_held n = record {
  constant = λ x. is_some (get nat_eq n.constants x);
  variable = λ x. is_some ((seen n.sites).variable x) || (seen n.sites).untyped x;
}

-- listed cells are live
abbrev pub AreListed : List KindTree → List (Option NodeId) → Type 0
AreListed trees cells = All (ChildBelow (length trees)) cells

-- the trees of listed cells
abbrev pub cells_held : List KindTree → List (Option NodeId) → List Tree
cells_held trees cells = map (tree_at trees) cells

-- a number, and so many more
abbrev pub and_more : ℕ → Option ℕ → Option ℕ
and_more n None = None
and_more n (Some k) = Some (n + k)

-- what is known at a node

abbrev pub IsSiteOf : List (ℕ × ℕ) → ℕ → Option NodeId → LastSite → Type 0
IsSiteOf rs p binders s = (s.place ≡ p) × (s.replications.items ≡ rs) × (s.binders ≡ binders)

abbrev pub state_held : List KindTree → State → Seen
state_held trees s = record {
  replications = s.replications.items;
  defined = s.defined;
  listed = cells_held trees s.listed;
  passed = s.passed;
  last = last_held trees s.last;
}

-- the same but for sites
pub record SameAbove (s r : State) : Type 0 where
  pub replications : r.replications.items ≡ s.replications.items
  pub defined : r.defined ≡ s.defined
  pub listed : r.listed ≡ s.listed
  pub passed : r.passed ≡ s.passed

-- the same, with more sites
pub record OnlySites (trees : List KindTree) (s r : State) (sites : List Site) : Type 0 where
  pub above : SameAbove s r
  pub last : last_held trees r.last ≡ with_sites (last_held trees s.last) sites
  pub live : HasLiveBinders (length trees) r.last

-- a live node, read
pub record IsOpened (trees : List KindTree) (k : NodeId) (node : Opened) : Type 0 where
  pub live : k.0 < length trees
  pub tree : tree_at trees (Some k) ≡ Node node.head (tree_at trees node.first) (tree_at trees node.second)
  pub first : ChildBelow k.0 node.first
  pub second : ChildBelow k.0 node.second
  pub no_first : IsNone node.first ↔ (tree_at trees node.first ≡ Empty)
  pub no_second : IsNone node.second ↔ (tree_at trees node.second ≡ Empty)

-- the fronts of lists of these lengths, and the same sites
pub record IsTaken (marks : Marks) (s r : State) : Type 0 where
  pub replications : r.replications.items ≡ take marks.replications s.replications.items
  pub defined : r.defined ≡ take marks.defined s.defined
  pub listed : r.listed ≡ take marks.listed s.listed
  pub passed : r.passed ≡ take marks.passed s.passed
  pub last : r.last ≡ s.last

-- the same, with these definitions
pub record DefinesOnly (s r : State) (definitions : List (ℕ × ℕ)) : Type 0 where
  pub replications : r.replications.items ≡ s.replications.items
  pub defined : r.defined ≡ definitions
  pub listed : r.listed ≡ s.listed
  pub passed : r.passed ≡ s.passed
  pub last : r.last ≡ s.last

-- the same, with more cells
pub record ListsOnly (trees : List KindTree) (s r : State) (cells : List Tree) : Type 0 where
  pub replications : r.replications.items ≡ s.replications.items
  pub defined : r.defined ≡ s.defined
  pub listed : cells_held trees r.listed ≡ cells_held trees s.listed ++ cells
  pub front : take (length s.listed) r.listed ≡ s.listed
  pub live : AreListed trees r.listed
  pub passed : r.passed ≡ s.passed
  pub last : r.last ≡ s.last

-- each list of a state is the front of that of the other
pub record Extends (s r : State) : Type 0 where
  pub replications : take (length s.replications.items) r.replications.items ≡ s.replications.items
  pub defined : take (length s.defined) r.defined ≡ s.defined
  pub listed : take (length s.listed) r.listed ≡ s.listed
  pub passed : take (length s.passed) r.passed ≡ s.passed

-- what the second child of a node knows, the first of which is a and lies from one place up to another
pub record IsEntered (trees : List KindTree) (s r : State) (w : Position) (h : Head) (a : Tree) (from to : ℕ) : Type 0 where
  pub held : state_held trees r ≡ behind (state_held trees s) w h a from to
  pub front : Extends s r
  pub live : AreListed trees r.listed
  pub last : r.last ≡ s.last

-- what was known in s is the front of what is known in r
pub record Keeps (marks : Marks) (s r : State) : Type 0 where
  pub replications : take marks.replications r.replications.items ≡ s.replications.items
  pub defined : take marks.defined r.defined ≡ s.defined
  pub listed : take marks.listed r.listed ≡ s.listed
  pub passed : take marks.passed r.passed ≡ s.passed

-- the constant that a declaration declares
abbrev pub constant_by : Declaration → Option ℕ
constant_by (Named x (Fun d) Empty result) = Some x
constant_by d = None

abbrev pub is_here : Option ℕ → ℕ → Bool
is_here None x = false
is_here (Some y) x = y == x

abbrev pub has_constant : List KindTree → List Decl → ℕ → Bool
has_constant trees [] x = false
has_constant trees (d ∷ ds) x = is_here (constant_by (declared trees d)) x || has_constant trees ds x
