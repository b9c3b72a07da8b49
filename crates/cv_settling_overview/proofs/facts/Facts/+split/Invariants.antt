use Rattle.std.specs.Prelude.{ℕ, ◌+◌, ◌*◌, Option, None, Some}
use Rattle.cv_pool.specs.declared.node.NodeId.{NodeId}
use Rattle.cv_settling_overview.proofs.facts.Facts.+split.Given as goal

abbrev above : Option NodeId → ℕ
above None = 0
above (Some n) = n.0 * 2 + 2

abbrev pub decreases-split : goal.decreases-split
decreases-split l = l.n.0 * 2 + 1

abbrev pub decreases-split_side : goal.decreases-split_side
decreases-split_side l = above l.side
