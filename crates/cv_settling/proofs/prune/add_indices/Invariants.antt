use Rattle.cv_pool.specs.PoolView.{Grows}
use Rattle.cv_settling.proofs.prune.add_indices.Given as goal

abbrev pub invariant-loop-equated : goal.invariant-loop-equated
invariant-loop-equated l = Grows l.fn.pool l.pool
