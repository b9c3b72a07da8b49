use Rattle.std.proofs.Common.{◌<◌, length}
use Rattle.std.specs.Prelude.{All}
use Rattle.cv_pool.specs.PoolView.{Grows}
use Rattle.cv_pool.specs.declared.node.NodeId.{NodeId}
use Rattle.cv_grounds.proofs.planting.plant_all.Given as goal

abbrev pub invariant-loop-number : goal.invariant-loop-number
invariant-loop-number l = record {
  live : All (λ (n : NodeId). n.0 < length l.pool.trees) l.nodes.items;
  grows : Grows l.fn.pool l.pool;
}
