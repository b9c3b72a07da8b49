use Rattle.cv_sequences.proofs.bounds.Bounds.{carried, carried_cost}
use Rattle.cv_sequences.proofs.bounds.chains_carry_bounds_back.Goals as goal

pub returns-clause-chance : goal.returns-clause-chance
returns-clause-chance c = λ ds own first links last w k i sat x asked v a advantages p bound h.
    carried ds own first w i sat x asked v a advantages links last k p bound h

pub returns-clause-sum : goal.returns-clause-sum
returns-clause-sum c = λ ds own first links last w k i sat x asked v a advantages p cost h.
    carried_cost ds own first w i sat x asked v a advantages links last k p cost h
