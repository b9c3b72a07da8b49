use Rattle.cv_pool.specs.PoolView.{Grows}
use Rattle.cv_strategy.proofs.strategy.Strategy.close.Given as goal

abbrev pub invariant-decls : goal.invariant-decls
invariant-decls l = Grows l.fn.pool l.pool
