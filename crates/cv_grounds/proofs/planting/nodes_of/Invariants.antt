use Rattle.std.proofs.Common.{ℕ, ◌<◌}
use Rattle.std.specs.Prelude.{All}
use Rattle.cv_pool.specs.declared.node.NodeId.{NodeId}
use Rattle.cv_grounds.proofs.planting.nodes_of.Given as goal

abbrev pub invariant-loop-argument : goal.invariant-loop-argument
invariant-loop-argument l = (n : ℕ) → All (λ (m : NodeId). m.0 < n) l.nodes → All (λ (m : NodeId). m.0 < n) l.list.items
