-- Trees of a pool with their places. This profile's own.
use Rattle.std.specs.Prelude.{◌≡◌, ℕ, ◌+◌, ◌<◌, ◌^◌, List, length}
use Rattle.cv_pool.specs.KindTree.{KindTree}
use Rattle.cv_pool.specs.Nodes.{ChildBelow}
use Rattle.cv_syntax_trees.specs.Tree.{Node, size, first_place, second_place}
use Rattle.cv_syntax.specs.PoolTrees.{tree_at}
use Rattle.cv_syntax.specs.Walks.{above}
use Rattle.cv_inline_sites.specs.declared.listing.subtree.Subtree.{Subtree}
use Rattle.cv_inline_sites.specs.declared.listing.subtree.Parent.{Parent}

-- it is in the pool, and its places fit
pub record IsWithin (trees : List KindTree) (s : Subtree) : Type 0 where
  pub live : ChildBelow (length trees) s.root
  pub fits : s.place + size (tree_at trees s.root) < 2 ^ 32

-- below a bound, too
pub record IsBelow (trees : List KindTree) (bound : ℕ) (s : Subtree) : Type 0 where
  pub within : IsWithin trees s
  pub below : above s.root < bound

-- the node at the top of a tree, with its children
pub record IsNodeAt (trees : List KindTree) (s : Subtree) (n : Parent) : Type 0 where
  pub tree : tree_at trees s.root ≡ Node n.head (tree_at trees n.first.root) (tree_at trees n.second.root)
  pub first_place : n.first.place ≡ first_place s.place n.head
  pub second_place : n.second.place ≡ second_place s.place n.head (tree_at trees n.first.root)
  pub first : IsBelow trees (above s.root) n.first
  pub second : IsBelow trees (above s.root) n.second
