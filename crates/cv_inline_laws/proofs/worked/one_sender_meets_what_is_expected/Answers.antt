use Rattle.cv_inline_laws.proofs.worked.OneSender.{is_met}
use Rattle.cv_inline_laws.proofs.worked.one_sender_meets_what_is_expected.Goals as goal

pub returns : goal.returns
returns c = is_met
