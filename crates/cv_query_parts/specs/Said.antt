-- What the parts of a certificate say, by their items: an entry, a route, and an atom of the query.
use Rattle.std.specs.Prelude.{ℕ, Bool, true, false, ◌&&◌, List}
use Rattle.cv_pool.specs.KindTree.{KindTree}
use Rattle.cv_pool.specs.Nodes.{ChildBelow}
use Rattle.cv_syntax_trees.specs.declared.head.Head.TheVariants.{AboveRoute, AtEntry, CellRoute, HoldsRoute, NeverEntry, WithEntry}
use Rattle.cv_syntax_trees.specs.Tree.{Tree, Empty, Node}
use Rattle.cv_syntax.specs.PoolTrees.{tree_at}
use Rattle.cv_meaning.specs.Correspondences as query
use Rattle.cv_meaning.specs.Correspondences.{Correspondence, RightEvent, RightTerm}
use Rattle.cv_scene.specs.Scenes.{Scene}
use Rattle.cv_scene.specs.Sights.{is_cell_at, sight_at}
use Rattle.cv_query_certificates.specs.EventNodes.{are_for, arguments_at, is_event_above, only_site, place_in}
use Rattle.cv_query_certificates.specs.Forms.{has_choice, have_types, is_above_site, is_number}
use Rattle.cv_query_parts.specs.declared.views.Atom.{Atom}
use Rattle.cv_query_parts.specs.declared.views.Atom.TheVariants as atom
use Rattle.cv_query_parts.specs.declared.views.Entry.{Entry}
use Rattle.cv_query_parts.specs.declared.views.Entry.TheVariants as entry
use Rattle.cv_query_parts.specs.declared.views.Route.{Route}
use Rattle.cv_query_parts.specs.declared.views.Route.TheVariants as route

-- a route: an event above by a derivation, one above the only definition of a cell's variable, a derivation, or no route

pub data Way : Type 0 where
  Above : (place : ℕ) → (by : Tree) → Way
  ByCell : (cell : Tree) → (place : ℕ) → (by : Tree) → Way
  Holds : (by : Tree) → Way
  NoWay : Way

abbrev pub cell_way : (cell rest : Tree) → Way
cell_way c Empty = NoWay
cell_way c (Node h q by) = ByCell c (place_in q) by

abbrev pub way_of : Tree → Way
way_of (Node AboveRoute q by) = Above (place_in q) by
way_of (Node CellRoute c rest) = cell_way c rest
way_of (Node HoldsRoute by e) = Holds by
way_of t = NoWay

abbrev pub way_seen : List KindTree → Route → Way
way_seen trees (route.Above q by) = Above q (tree_at trees by)
way_seen trees (route.Cell c q by) = ByCell (tree_at trees c) q (tree_at trees by)
way_seen trees (route.Holds by) = Holds (tree_at trees by)
way_seen trees route.Other = NoWay

abbrev pub IsRouteBelow : ℕ → Route → Type 0
IsRouteBelow n (route.Above q by) = ChildBelow n by
IsRouteBelow n (route.Cell c q by) = ChildBelow n c × ChildBelow n by
IsRouteBelow n (route.Holds by) = ChildBelow n by
IsRouteBelow n route.Other = Unit {0}

-- the form of a route, by what it says
abbrev pub has_way : Scene → (place : ℕ) → query.Atom → Way → Bool
has_way s p (RightEvent inj f ms) (Above q by) = is_event_above s.game f ms q p
has_way s p (RightEvent inj f ms) (ByCell c q by) = is_cell_at s p c && is_above_site s.game f ms q (only_site s.game c)
has_way s p (RightTerm m) (Holds by) = true
has_way s p c way = false

-- an atom

abbrev pub atom_seen : List KindTree → Atom → query.Atom
atom_seen trees (atom.Event inj f ms) = RightEvent inj f (tree_at trees ms)
atom_seen trees (atom.Term m) = RightTerm (tree_at trees m)

abbrev pub IsAtomBelow : ℕ → Atom → Type 0
IsAtomBelow n (atom.Event inj f ms) = ChildBelow n ms
IsAtomBelow n (atom.Term m) = ChildBelow n m

-- an entry: a place that is never reached, by a derivation; a place with witnesses and the choice of an alternative; or no entry

pub data Saying : Type 0 where
  Never : (place by : Tree) → Saying
  With : (place witnesses choice : Tree) → Saying
  Nothing : Saying

abbrev pub saying_at : (place rest : Tree) → Saying
saying_at n (Node NeverEntry by e) = Never n by
saying_at n (Node WithEntry ws choice) = With n ws choice
saying_at n t = Nothing

abbrev pub saying_of : Tree → Saying
saying_of (Node AtEntry n rest) = saying_at n rest
saying_of t = Nothing

abbrev pub saying_seen : List KindTree → Entry → Saying
saying_seen trees (entry.Never n by) = Never (tree_at trees n) (tree_at trees by)
saying_seen trees (entry.With n ws choice) = With (tree_at trees n) (tree_at trees ws) (tree_at trees choice)
saying_seen trees entry.Other = Nothing

abbrev pub IsEntryBelow : ℕ → Entry → Type 0
IsEntryBelow n (entry.Never m by) = ChildBelow n m × ChildBelow n by
IsEntryBelow n (entry.With m ws choice) = ChildBelow n m × ChildBelow n ws × ChildBelow n choice
IsEntryBelow n entry.Other = Unit {0}

-- the form of an entry with witnesses and a choice
abbrev pub has_with : Scene → Correspondence → (place : ℕ) → (witnesses choice : Tree) → Bool
has_with s q p ws choice = are_for q.variables (arguments_at s.game p) && (have_types (sight_at s p) q.others ws && has_choice s q p choice)

abbrev pub has_saying : Scene → Correspondence → (place : ℕ) → Saying → Bool
has_saying s q p (Never n by) = is_number p n
has_saying s q p (With n ws choice) = is_number p n && has_with s q p ws choice
has_saying s q p Nothing = false
