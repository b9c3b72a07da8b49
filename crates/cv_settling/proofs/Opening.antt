-- Trees of parts, node by node.
use Rattle.std.proofs.Common.{◌≡◌, ℕ, ◌+◌, ◌<◌, Option, Some, None, arith}
use Rattle.cv_pool.specs.declared.node.NodeId.{NodeId}
use Rattle.cv_pool.specs.Nodes.{ChildBelow}
use Rattle.cv_syntax.specs.Walks.{above}
use Rattle.cv_syntax.proofs.Trees.{same_open, tree_of_NoTree}

-- a child stands before its node
pub above_less : (n : ℕ) (child : Option NodeId) → ChildBelow n child → above child < n + 1
above_less n None b = omega arith
above_less n (Some m) b = omega arith

pub ruleset parts = (tree_of_NoTree, same_open, above_less)
