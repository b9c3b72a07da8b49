-- Nodes of a pool, each the second child of the one before.
use Rattle.std.specs.Prelude.{◌≡◌, ℕ, ◌<◌, false, List, [], ◌∷◌, length, Option, Some}
use Rattle.cv_pool.specs.declared.node.NodeId.{NodeId}
use Rattle.cv_pool.specs.KindTree.{KindTree}
use Rattle.cv_pool.specs.Nodes.{ChildBelow}
use Rattle.cv_syntax_trees.specs.Tree.{Node}
use Rattle.cv_syntax.specs.PoolTrees.{tree_at}
use Rattle.cv_scene.specs.Scenes.{head_names}
use Rattle.cv_edit_changes.specs.declared.renaming.chain.Link.{Link}

-- the node was read in the pool
pub record IsRead (trees : List KindTree) (l : Link) : Type 0 where
  pub live : l.id.0 < length trees
  pub tree : tree_at trees (Some l.id) ≡ Node l.node.head (tree_at trees l.node.first) (tree_at trees l.node.second)
  pub first : ChildBelow l.id.0 l.node.first
  pub second : ChildBelow l.id.0 l.node.second

-- they lead from a node, or none, to one behind them
abbrev pub IsChain : List KindTree → Option NodeId → List Link → Option NodeId → Type 0
IsChain trees start [] end = start ≡ end
IsChain trees start (l ∷ ls) end = (start ≡ Some l.id) × (IsRead trees l × IsChain trees l.node.second ls end)

-- over these children the node is as it was, and it doesn't have the name
abbrev pub Stays : ℕ → Link → (first second : Option NodeId) → Type 0
Stays x l first second = (first ≡ l.node.first) × ((second ≡ l.node.second) × (head_names x l.node.head ≡ false))
