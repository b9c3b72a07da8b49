use Rattle.cv_meaning_laws.proofs.adequacy.Counting.{count_is, total_is}
use Rattle.cv_meaning_laws.proofs.adequacy.counts_are_of_tapes.Goals as goal

pub returns-clause-count : goal.returns-clause-count
returns-clause-count c = count_is

pub returns-clause-total : goal.returns-clause-total
returns-clause-total c = total_is
