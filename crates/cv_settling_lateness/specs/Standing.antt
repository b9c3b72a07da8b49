-- What a table of a game's definitions and sizes says of its trees, and how the walk to a place goes by it. This profile's own.
use Rattle.std.specs.Prelude.{◌≡◌, ◌≤◌, ◌<◌, ℕ, ◌+◌, ◌-◌, nat_eq, nat_lt, not, Bool, true, false, List, Some, IfSome}
use Rattle.std.specs.HashMap.{get}
use Rattle.std.specs.List.Sorted.{IsPermutation, IsSorted}
use Rattle.cv_pool.specs.KindTree.{KindTree}
use Rattle.cv_pool.specs.Nodes.{ChildBelow}
use Rattle.cv_pool.specs.declared.node.NodeId.{NodeId}
use Rattle.cv_scene.specs.Late.{guards, is_late}
use Rattle.cv_syntax.specs.PoolTrees.{tree_at}
use Rattle.cv_syntax.specs.declared.open.Opened.{Opened}
use Rattle.cv_syntax_trees.specs.declared.head.Head.{Head}
use Rattle.cv_syntax_trees.specs.declared.head.Head.TheVariants.{Branch}
use Rattle.cv_syntax_trees.specs.Head.{weight}
use Rattle.cv_syntax_trees.specs.Tree.{Tree, size}
use Rattle.cv_settling_lateness.specs.Defining.{by_name_and_place, definitions, has_within}
use Rattle.cv_settling_lateness.specs.declared.definitions.Definition.{Definition}
use Rattle.cv_settling_lateness.specs.declared.lateness.Lateness.{Lateness}
use Rattle.cv_settling_lateness.specs.declared.lateness.Way.{Way}
use Rattle.cv_settling_lateness.specs.declared.lateness.Way.TheVariants.{Ends, Goes}
use Rattle.cv_settling_lateness.specs.declared.sizes.Children.{Children}
use Rattle.cv_settling_lateness.specs.declared.sizes.Sizes.{Sizes}
use Rattle.cv_settling_lateness.specs.declared.sizes.Stretch.{Stretch}

-- 32 bits count its nodes, and tell them from too many
abbrev pub IsCountable : Tree → Type 0
IsCountable t = size t < 4294967295

-- each size that is kept is that of the node's tree
abbrev pub AreSizes : List KindTree → Sizes → Type 0
AreSizes trees sizes = (n : NodeId) → IfSome (get nat_eq sizes.table n.0) (λ s. s ≡ size (tree_at trees (Some n)))

-- the tables of a game
pub record IsLateness (trees : List KindTree) (game : NodeId) (l : Lateness) : Type 0 where
  pub root : l.game ≡ game
  pub few : IsCountable (tree_at trees (Some game))
  pub total : l.total ≡ size (tree_at trees (Some game))
  pub noted : IsPermutation (definitions 0 (tree_at trees (Some game))) l.definitions.list.items
  pub sorted : IsSorted by_name_and_place l.definitions.list.items
  pub sizes : AreSizes trees l.sizes

-- a tree takes these places, few enough
pub record Takes (trees : List KindTree) (s : Stretch) : Type 0 where
  pub ends : s.from + size (tree_at trees s.at) ≡ s.to
  pub few : s.to < 4294967295

-- the places that the children of a node take
abbrev pub children_in : List KindTree → Opened → Stretch → Children
children_in trees node s =
    let behind = s.from + weight node.head + size (tree_at trees node.first) in
    record {
      first = record { at = node.first; from = s.from + weight node.head; to = behind };
      second = record { at = node.second; from = behind; to = s.to };
    }

-- the tree takes these places, the place isn't before them, and within them these are its definitions
pub record Stands (trees : List KindTree) (ds : List Definition) (place : ℕ) (s : Stretch) : Type 0 where
  pub takes : Takes trees s
  pub begun : s.from ≤ place
  pub within : (x low high : ℕ) → s.from ≤ low → high ≤ s.to → has_within x low high ds ≡ has_within x low high (definitions s.from (tree_at trees s.at))

-- whether a variable comes later than the place, as the tree at these places says
abbrev pub is_late_there : List KindTree → (x place : ℕ) → Stretch → Bool
is_late_there trees x p s = is_late x (tree_at trees s.at) (p - s.from)

-- the walk has ended, or goes on where it comes to the same
abbrev pub Leads : List KindTree → List Definition → (x place : ℕ) → Stretch → Way → Type 0
Leads trees ds x p s (Ends found) = is_late_there trees x p s ≡ found
Leads trees ds x p s (Goes next) = Stands trees ds p next × (is_late_there trees x p s ≡ is_late_there trees x p next)

abbrev pub IsWayBelow : ℕ → Way → Type 0
IsWayBelow n (Ends found) = Unit {0}
IsWayBelow n (Goes next) = ChildBelow n next.at

abbrev pub way_if : Bool → Stretch → Way
way_if true s = Goes s
way_if false s = Ends false

-- the place of the second child stands in the body of a branch
abbrev pub is_behind_guards : Head → (second : Tree) → ℕ → Bool
is_behind_guards Branch b p = not (nat_lt p (guards b))
is_behind_guards h b p = true
