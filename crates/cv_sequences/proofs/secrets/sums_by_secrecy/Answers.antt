use Rattle.cv_sequences.proofs.secrets.Sums.{plain, put}
use Rattle.cv_sequences.proofs.secrets.sums_by_secrecy.Goals as goal

pub returns-clause-plain : goal.returns-clause-plain
returns-clause-plain c = plain

pub returns-clause-put : goal.returns-clause-put
returns-clause-put c = put
