-- What a walk over the syntax nodes of a tree finds.
use Rattle.std.specs.Prelude.{◌≡◌, ℕ, ◌+◌, ◌<◌, List, length, slice_get, Option, Some, None, Result, MatchResult}
use Rattle.cv_pool.specs.declared.node.NodeId.{NodeId}
use Rattle.cv_pool.specs.KindTree.{KindTree}
use Rattle.cv_syntax_trees.specs.Tree.{Tree}
use Rattle.cv_syntax.specs.PoolTrees.{tree_at}

-- a node below a bound, that stands for the tree at a place of the list; or how many places lie past the list
abbrev pub Reaches : List KindTree → List Tree → ℕ → ℕ → Result NodeId ℕ → Type 0
Reaches trees ts bound place r =
    MatchResult r (λ n. (slice_get ts place ≡ Some (tree_at trees (Some n))) × (n.0 < bound)) (λ left. left + length ts ≡ place)

-- one above a number, or 0
abbrev pub above : Option NodeId → ℕ
above None = 0
above (Some n) = n.0 + 1
