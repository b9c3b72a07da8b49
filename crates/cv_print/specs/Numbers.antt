use Rattle.std.specs.Prelude.{ℕ, ◌+◌, Option, Some, None}
use Rattle.cv_pool.specs.declared.node.NodeId.{NodeId}

-- one above a node's number, or 0
abbrev pub above : Option NodeId → ℕ
above None = 0
above (Some n) = n.0 + 1
