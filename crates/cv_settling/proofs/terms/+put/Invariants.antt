use Rattle.cv_pool.specs.PoolView.{Grows}
use Rattle.cv_settling.proofs.terms.+put.Given as goal

abbrev pub decreases-put : goal.decreases-put
decreases-put l = l.n.0

abbrev pub invariant-loop-part : goal.invariant-loop-part
invariant-loop-part l = Grows l.fn.pool l.pool
