-- What is made of a next game: it stands in the pool, within the limits; or it passes one, or the pool has no room for it. This
-- profile's own.
use Rattle.std.specs.Prelude.{◌≡◌, ℕ, ◌+◌, ◌<◌, ◌≤◌, List, Some, Result, Ok, Err}
use Rattle.cv_pool.specs.KindTree.{KindTree}
use Rattle.cv_pool.specs.declared.node.NodeId.{NodeId}
use Rattle.cv_pool.specs.declared.pool.PoolError.{PoolError}
use Rattle.cv_pool.specs.declared.pool.PoolError.TheVariants as pool
use Rattle.cv_syntax.specs.declared.work.BuildError.{BuildError}
use Rattle.cv_syntax.specs.declared.work.BuildError.TheVariants as build
use Rattle.cv_syntax_trees.specs.Tree.{Tree, depth, size}
use Rattle.cv_syntax.specs.PoolTrees.{tree_at}
use Rattle.cv_syntax.specs.limits.Limits.{most_depth, most_nodes, nodes_of, told}

-- a tree within the limits is made in a pool that had so many nodes
pub record IsTreeAt (limit live : ℕ) (next : Tree) (trees : List KindTree) (root : NodeId) : Type 0 where
  pub tree : tree_at trees (Some root) ≡ next
  pub small : size next ≤ most_nodes
  pub shallow : depth next ≤ most_depth
  pub room : live + nodes_of next ≤ limit

-- there is no room for a tree within the limits
pub record IsCrowded (limit live : ℕ) (next : Tree) (asked : ℕ) : Type 0 where
  pub small : size next ≤ most_nodes
  pub shallow : depth next ≤ most_depth
  pub asks : asked ≡ nodes_of next
  pub over : limit < live + asked

-- a tree is made; or it passes a limit, or the pool has no room for it, or memory ran out
abbrev pub IsMade : (limit live : ℕ) → (next : Tree) → List KindTree → Result NodeId BuildError → Type 0
IsMade limit live next trees (Ok root) = IsTreeAt limit live next trees root
IsMade limit live next trees (Err (build.Nodes count)) = (most_nodes < size next) × (count ≡ told (size next))
IsMade limit live next trees (Err (build.Depth deep)) = (size next ≤ most_nodes) × (most_depth < depth next) × (deep ≡ told (depth next))
IsMade limit live next trees (Err (build.Full asked)) = IsCrowded limit live next asked
IsMade limit live next trees (Err build.OutOfMemory) = Unit {0}

-- why a game is not built, where the pool makes no tree of it
abbrev pub error_of : PoolError → BuildError
error_of (pool.Full need) = build.Full need
error_of pool.OutOfMemory = build.OutOfMemory
