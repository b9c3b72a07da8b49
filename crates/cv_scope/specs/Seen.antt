-- What the tables of a walk hold, and the fault that is found by them.
-- Of the sites of a name only the last counts: the earlier ones were found to be alike and in different branches.
use Rattle.std.specs.Prelude.{◌+◌, ℕ, Bool, true, false, ◌&&◌, ◌||◌, not, nat_lt, if◌then◌else◌, List, [], ◌∷◌, ◌++◌, length, Option, Some, None}
use Rattle.std.specs.List.{list_any}
use Rattle.cv_syntax_trees.specs.declared.head.Head.{Head}
use Rattle.cv_syntax_trees.specs.declared.head.Head.TheVariants.{In, New, Let, Branch, Leaf, Read, Cons, Key, Call}
use Rattle.cv_syntax_trees.specs.Children.{is_empty, is_leaf}
use Rattle.cv_syntax_trees.specs.Tree.{Tree, Empty, Node, second, same_tree, first_place, second_place}
use Rattle.cv_meaning.specs.Binders.{bound_names}
use Rattle.cv_syntax_trees.specs.sites.Sites.{first_of}
use Rattle.cv_scope.specs.tables.Definitions.{is_defined, with_definition}
use Rattle.cv_scope_rules.specs.declared.fault.Fault.{Fault}
use Rattle.cv_scope_rules.specs.declared.fault.Fault.TheVariants.{Unscoped, TwoSites, Channel, Replications}
use Rattle.cv_scope_rules.specs.declared.position.Position.{Position}
use Rattle.cv_scope_rules.specs.declared.position.Position.TheVariants.{Guards, Cells, OneCell}
use Rattle.cv_scope_rules.specs.Context.{items, replications_below, first_position, second_position}
use Rattle.cv_scope_rules.specs.Sites.{Site, SiteName, named_here, channel_here, sites_here, sites_from}
use Rattle.cv_scope_rules.specs.Standing.{parts_ways}
use Rattle.cv_scope_rules.specs.Rules.{Names, is_index, carries_current}
use Rattle.cv_scope_rules.specs.Tests.{same_name, is_in_one_of, are_alike, is_few_indices, binds_new_index}
use Rattle.cv_syntax.specs.faults.Walk.{placed}

pub record Seen : Type 0 where
  pub replications : List (ℕ × ℕ)
  -- the variables that are defined above, each with the number of replications above its definition
  pub defined : List (ℕ × ℕ)
  -- the cells of the `defined` lists around
  pub listed : List Tree
  -- the places of the earlier branches around
  pub passed : List (ℕ × ℕ)
  -- the last site of each name
  pub last : SiteName → Option Site

abbrev pub no_site : SiteName → Option Site
no_site n = None

abbrev pub nothing_seen : Seen
nothing_seen = record { replications = []; defined = []; listed = []; passed = []; last = no_site }

-- reads

abbrev pub plus_one : Option ℕ → Option ℕ
plus_one None = None
plus_one (Some k) = Some (k + 1)

abbrev pub is_cons : Head → Bool
is_cons Cons = true
is_cons h = false

-- how many indices a list of terms has, where they are the first current ones
abbrev pub current : List (ℕ × ℕ) → Tree → Option ℕ
current rs Empty = Some 0
current [] (Node h a b) = None
current (r ∷ rs) (Node h a b) = if is_cons h && is_leaf r.0 a then plus_one (current rs b) else None

abbrev pub is_defined_at : List (ℕ × ℕ) → ℕ → Option ℕ → Bool
is_defined_at ds x None = false
is_defined_at ds x (Some k) = is_defined ds (x, k)

-- the node is a cell that a definition above assigns
abbrev pub reads_definition : Seen → Head → Tree → Tree → Bool
reads_definition S (Leaf x) a b = is_empty a && (is_empty b && is_defined S.defined (x, 0))
reads_definition S (Read x) a b = not (is_empty a) && (is_empty b && is_defined_at S.defined x (current S.replications a))
reads_definition S h a b = false

abbrev pub is_reached : Seen → Head → Tree → Tree → Bool
is_reached S h a b = reads_definition S h a b || list_any (same_tree (Node h a b)) S.listed

abbrev pub is_read_reached : Names → Seen → Head → Tree → Tree → Bool
is_read_reached names S (Leaf x) a b = is_index S.replications x || (names.constant x || is_reached S (Leaf x) a b)
is_read_reached names S (Read x) a b = is_reached S (Read x) a b
is_read_reached names S h a b = true

abbrev pub is_scoped_read : Names → Position → Seen → Head → Tree → Tree → Bool
is_scoped_read names OneCell S h a b = true
is_scoped_read names w S h a b = is_read_reached names S h a b

-- sites

abbrev pub with_site : (SiteName → Option Site) → Site → SiteName → Option Site
with_site last s n = if same_name s.name n then Some s else last n

abbrev pub with_sites : (SiteName → Option Site) → List Site → SiteName → Option Site
with_sites last [] = last
with_sites last (s ∷ ss) = with_sites (with_site last s) ss

abbrev pub may_follow_last : List (ℕ × ℕ) → Site → Option Site → Bool
may_follow_last passed s None = true
may_follow_last passed s (Some e) = is_in_one_of passed e.place && are_alike e s

abbrev pub may_stand_last : List (ℕ × ℕ) → (SiteName → Option Site) → List Site → Bool
may_stand_last passed last [] = true
may_stand_last passed last (s ∷ ss) = may_follow_last passed s (last s.name) && may_stand_last passed (with_site last s) ss

-- nodes

abbrev pub is_well_replicated : Names → List (ℕ × ℕ) → Head → Tree → Bool
is_well_replicated names rs h a = nat_lt (length rs) 9 && (is_few_indices h a && binds_new_index names rs h)

abbrev pub fault_seen : Names → Seen → Position → ℕ → Head → Tree → Tree → Option Fault
fault_seen names S w p h a b =
    if not (is_scoped_read names w S h a b) then Some Unscoped
    else if not (may_stand_last S.passed S.last (named_here S.replications p h a)) then Some TwoSites
    else if not (carries_current S.replications h a && may_stand_last S.passed S.last (channel_here S.replications p h a)) then Some Channel
    else if not (is_well_replicated names S.replications h a) then Some Replications
    else None

-- with the sites of a node, and of a tree
abbrev pub with_node : Seen → ℕ → Head → Tree → Seen
with_node S p h a = record S { last = with_sites S.last (sites_here S.replications p h a) }

abbrev pub with_tree : Seen → ℕ → Tree → Seen
with_tree S p t = record S { last = with_sites S.last (sites_from S.replications p t) }

-- the variables that a node defines
abbrev pub defined_by : Head → Tree → List ℕ
defined_by (In c) a = bound_names (second a)
defined_by (New x T) a = x ∷ []
defined_by (Let x T) a = x ∷ []
defined_by (Key x) a = x ∷ []
defined_by (Call x l) a = x ∷ []
defined_by Branch a = bound_names a
defined_by h a = []

abbrev pub with_definitions : List (ℕ × ℕ) → ℕ → List ℕ → List (ℕ × ℕ)
with_definitions ds k [] = ds
with_definitions ds k (x ∷ xs) = with_definitions (with_definition ds (x, k)) k xs

-- the cells that the rest of a list knows
abbrev pub listed_in : Position → Tree → List Tree
listed_in Guards a = items a
listed_in Cells a = a ∷ []
listed_in w a = []

abbrev pub listed_by : Position → Head → Tree → List Tree
listed_by w Cons a = listed_in w a
listed_by w h a = []

abbrev pub passed_by : Position → Head → ℕ → ℕ → List (ℕ × ℕ)
passed_by w h p q = if parts_ways w h then (p, q) ∷ [] else []

-- what the second child of a node sees, the first of which is a and lies from p up to q
abbrev pub behind : Seen → Position → Head → Tree → ℕ → ℕ → Seen
behind S w h a p q = record S {
  replications = replications_below h S.replications;
  defined = with_definitions S.defined (length S.replications) (defined_by h a);
  listed = S.listed ++ listed_by w h a;
  passed = S.passed ++ passed_by w h p q;
}

abbrev pub second_seen : Seen → Position → ℕ → Head → Tree → Seen
second_seen S w p h a = behind (with_tree (with_node S p h a) (first_place p h) a) w h a (first_place p h) (second_place p h a)

-- the first fault of a tree that stands in a position at a place
unfoldable pub found : Names → Seen → Position → ℕ → Tree → Option (ℕ × Fault)
found names S w p Empty = None
found names S w p (Node h a b) =
    first_of (placed p (fault_seen names S w p h a b))
    (first_of (found names (with_node S p h a) (first_position w h) (first_place p h) a)
    (found names (second_seen S w p h a) (second_position w h) (second_place p h a) b))
