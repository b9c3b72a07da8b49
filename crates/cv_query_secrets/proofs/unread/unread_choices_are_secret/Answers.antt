use Rattle.cv_meaning.specs.Interpretation.{setting_of}
use Rattle.cv_query_secrets.proofs.unread.Chances.{equal, no_advantage, no_secrecy}
use Rattle.cv_query_secrets.proofs.unread.unread_choices_are_secret.Goals as goal

pub returns-clause-chances : goal.returns-clause-chances
returns-clause-chances c = λ s x formed secret. equal s x formed.phrase secret

pub returns-clause-secrecy : goal.returns-clause-secrecy
returns-clause-secrecy c = λ s x formed secret. no_secrecy s x formed.phrase secret

pub returns-clause-query : goal.returns-clause-query
returns-clause-query c = λ s x formed secret i one a.
    no_advantage (setting_of s.declarations i) x one a s.game (no_secrecy s x formed.phrase secret i one a)
