use Rattle.cv_sequences.proofs.secrets.Secrets.{carried, taped}
use Rattle.cv_sequences.proofs.secrets.chains_carry_secrets_back.Goals as goal

pub returns-clause-secrecy : goal.returns-clause-secrecy
returns-clause-secrecy c = λ ds own first links last w k i sat one x asks asks_random v v_random a advantages p p_random none.
    carried ds own first w i sat one x asks asks_random v v_random a advantages links last k p p_random none

pub returns-clause-tapes : goal.returns-clause-tapes
returns-clause-tapes c = taped
