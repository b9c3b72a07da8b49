use Rattle.cv_sequences.proofs.secrets.Sums.{of_both}
use Rattle.cv_sequences.proofs.secrets.secret_sums_are_of_both.Goals as goal

pub returns-clause-value : goal.returns-clause-value
returns-clause-value c = λ i advantages costs. (of_both i advantages costs).same

pub returns-clause-tapes : goal.returns-clause-tapes
returns-clause-tapes c = λ i advantages costs. ((of_both i advantages costs).forth, (of_both i advantages costs).back)
