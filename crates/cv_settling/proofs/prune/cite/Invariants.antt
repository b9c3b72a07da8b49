use Rattle.cv_pool.specs.PoolView.{Grows}
use Rattle.cv_settling.proofs.prune.cite.Given as goal

abbrev pub invariant-loop-side : goal.invariant-loop-side
invariant-loop-side l = Grows l.fn.pool l.pool
