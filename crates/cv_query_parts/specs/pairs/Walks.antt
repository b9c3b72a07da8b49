-- The pairs of a certificate, gone over in the order in which they are needed. A walk meets those whose places and atoms are right; which of
-- them isn't derived is another question.
use Rattle.std.specs.Prelude.{◌≡◌, ℕ, Bool, ◌&&◌, ◌==◌, if◌then◌else◌, All, List, [], ◌∷◌, ◌++◌, flat_map, length, Option, Some, None}
use Rattle.cv_syntax_trees.specs.lists.Options.{first_of}
use Rattle.cv_pool.specs.KindTree.{KindTree}
use Rattle.cv_pool.specs.Nodes.{ChildBelow}
use Rattle.cv_syntax_trees.specs.declared.head.Head.TheVariants as head
use Rattle.cv_syntax_trees.specs.Tree.{Tree, Node}
use Rattle.cv_syntax.specs.PoolTrees.{tree_at}
use Rattle.cv_scene.specs.Derivations.{unless}
use Rattle.cv_scene.specs.Scenes.{Scene}
use Rattle.cv_query_certificates.specs.EventNodes.{place_in}
use Rattle.cv_query_certificates.specs.Marks.{plain}
use Rattle.cv_query_certificates.specs.PairParts.{first_wrong_pair, proves_pair}
use Rattle.cv_query_certificates.specs.Pairs.{Needed}
use Rattle.cv_query_parts.specs.Countable.{AreCountableParts, IsCountable}
use Rattle.cv_query_parts.specs.Said.{IsRouteBelow, way_seen}
use Rattle.cv_query_parts.specs.declared.pairs.marked.MarkedEntry.{MarkedEntry}
use Rattle.cv_query_parts.specs.declared.pairs.marked.MarkedRoute.{MarkedRoute}
use Rattle.cv_query_parts.specs.declared.pairs.walk.PairPart.{PairPart}
use Rattle.cv_query_parts.specs.declared.pairs.walk.Pairing.{Pairing}
use Rattle.cv_query_parts.specs.declared.pairs.walk.Walk.{Walk}
use Rattle.cv_query_parts.specs.pairs.Routes.{meet, needed_by}

-- a part that is a pair, by its items

pub record PairItems : Type 0 where
  pub first : ℕ
  pub second : ℕ
  pub atom : ℕ
  pub by : Tree

abbrev pub items_of_pair : Tree → Option PairItems
items_of_pair (Node head.Pair p (Node h q (Node g c by))) = Some (record { first = place_in p; second = place_in q; atom = place_in c; by = by })
items_of_pair part = None

abbrev pub part_seen : List KindTree → PairPart → PairItems
part_seen trees p = record { first = p.first; second = p.second; atom = p.atom; by = tree_at trees p.by }

abbrev pub IsPartBelow : ℕ → PairPart → Type 0
IsPartBelow n p = ChildBelow n p.by

-- the pair that is needed
abbrev pub is_that : Pairing → PairPart → Bool
is_that n p = (p.first == n.first) && ((p.second == n.second) && (p.atom == n.atom))

abbrev pub needed_of : Scene → (k : ℕ) → List KindTree → Pairing → Needed
needed_of s k trees p = needed_by s k p.first p.second p.atom (way_seen trees p.one) (way_seen trees p.other)

-- the first place of the first of them that isn't derived
abbrev pub first_unproved : Scene → (k : ℕ) → (distinct : List ℕ) → List KindTree → List Pairing → Option ℕ
first_unproved s k ds trees [] = None
first_unproved s k ds trees (p ∷ ps) =
    first_of (unless (proves_pair s k ds (needed_of s k trees p) (plain k (tree_at trees p.by))) p.first) (first_unproved s k ds trees ps)

-- What is wrong first, where further pairs are needed: one that was met and isn't derived, or else the place at which the walk stopped, or
-- else one of the parts that are left.
abbrev pub wrong_of : Scene → (k : ℕ) → (distinct : List ℕ) → List KindTree → Walk → (stopped : Option ℕ) → List Needed → Option ℕ
wrong_of s k ds trees w stopped ns =
    first_of (first_unproved s k ds trees w.met.items) (first_of stopped (first_wrong_pair s k ds ns (tree_at trees w.left)))

-- a walk that leads from one state to another one: wrong is the same, where the first pairs are needed before it, and the others behind it
abbrev pub Leads : List KindTree → (old new : Walk) → (stopped : Option ℕ) → (first rest : Scene → ℕ → List Needed) → Type 0
Leads trees old new stopped first rest =
    (s : Scene) (k : ℕ) (ds : List ℕ) (ns : List Needed) → wrong_of s k ds trees old None (first s k ++ ns) ≡ wrong_of s k ds trees new stopped (rest s k ++ ns)

abbrev pub nothing : Scene → ℕ → List Needed
nothing s k = []

-- of two routes, where both are for one atom and end at one node
abbrev pub needed_of_routes : Scene → (k : ℕ) → List KindTree → (p q : ℕ) → (one other : MarkedRoute) → List Needed
needed_of_routes s k trees p q r t =
    if r.atom == t.atom && meet (way_seen trees r.route) (way_seen trees t.route)
    then needed_by s k p q r.atom (way_seen trees r.route) (way_seen trees t.route) ∷ []
    else []

-- of a route and each of these
abbrev pub needed_of_route : Scene → (k : ℕ) → List KindTree → (p q : ℕ) → MarkedRoute → List MarkedRoute → List Needed
needed_of_route s k trees p q r ts = flat_map (needed_of_routes s k trees p q r) ts

-- of two entries
abbrev pub needed_of_entries : Scene → (k : ℕ) → List KindTree → (one other : MarkedEntry) → List Needed
needed_of_entries s k trees e f = flat_map (λ (r : MarkedRoute). needed_of_route s k trees e.place f.place r f.routes.items) e.routes.items

-- of an entry and each of these
abbrev pub needed_of_entry : Scene → (k : ℕ) → List KindTree → MarkedEntry → List MarkedEntry → List Needed
needed_of_entry s k trees e es = flat_map (needed_of_entries s k trees e) es

-- of each entry, with itself and those behind it
abbrev pub needed_of_all : Scene → (k : ℕ) → List KindTree → List MarkedEntry → List Needed
needed_of_all s k trees [] = []
needed_of_all s k trees (e ∷ es) = needed_of_entry s k trees e (e ∷ es) ++ needed_of_all s k trees es

-- pairs that were met

pub record IsMet (trees : List KindTree) (p : Pairing) : Type 0 where
  pub one : IsRouteBelow (length trees) p.one
  pub other : IsRouteBelow (length trees) p.other
  pub by : ChildBelow (length trees) p.by
  pub few : IsCountable (tree_at trees p.by)

pub record IsWalked (trees : List KindTree) (w : Walk) : Type 0 where
  pub met : All (IsMet trees) w.met.items
  pub left : ChildBelow (length trees) w.left
  pub few : AreCountableParts (tree_at trees w.left)
