use Rattle.cv_sequences.proofs.Sums.{carried, sum_tapes}
use Rattle.cv_sequences.proofs.chances_are_carried_back.Goals as goal

pub returns-clause-chance : goal.returns-clause-chance
returns-clause-chance c = λ ds known first passages last w constants holds unreached k sound s i sat x asked v a advantages h.
    carried ds known first w constants holds unreached k i sat x asked v a advantages passages last sound s h

pub returns-clause-tapes : goal.returns-clause-tapes
returns-clause-tapes c = sum_tapes
