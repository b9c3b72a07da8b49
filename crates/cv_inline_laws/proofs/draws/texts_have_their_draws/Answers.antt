use Rattle.std.proofs.Common.{refl}
use Rattle.cv_inline_laws.proofs.draws.Covered.{calls_covered}
use Rattle.cv_inline_laws.proofs.draws.texts_have_their_draws.Goals as goal

pub returns-clause-key : goal.returns-clause-key
returns-clause-key c g cs names labels role = refl

pub returns-clause-calls : goal.returns-clause-calls
returns-clause-calls c = calls_covered
