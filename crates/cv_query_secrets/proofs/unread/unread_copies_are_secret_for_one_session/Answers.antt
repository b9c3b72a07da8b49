use Rattle.std.proofs.Common.{true}
use Rattle.cv_meaning.specs.Interpretation.{setting_of}
use Rattle.cv_query_secrets.proofs.unread.Chances.{no_advantage}
use Rattle.cv_query_secrets.proofs.unread.CopyChances.{equal, no_secrecy}
use Rattle.cv_query_secrets.proofs.unread.unread_copies_are_secret_for_one_session.Goals as goal

pub returns-clause-chances : goal.returns-clause-chances
returns-clause-chances c = equal

pub returns-clause-secrecy : goal.returns-clause-secrecy
returns-clause-secrecy c = no_secrecy

pub returns-clause-query : goal.returns-clause-query
returns-clause-query c = λ s x ready secret i a. no_advantage (setting_of s.declarations i) x true a s.game (no_secrecy s x ready secret i a)
