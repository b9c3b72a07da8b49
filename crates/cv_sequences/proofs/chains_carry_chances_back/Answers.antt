use Rattle.cv_sequences.proofs.Chains.{carried, taped}
use Rattle.cv_sequences.proofs.chains_carry_chances_back.Goals as goal

pub returns-clause-chance : goal.returns-clause-chance
returns-clause-chance c = λ ds own first links last w k i sat x asked v a advantages p h.
    carried ds own first w i sat x asked v a advantages links last k p h

pub returns-clause-tapes : goal.returns-clause-tapes
returns-clause-tapes c = taped
