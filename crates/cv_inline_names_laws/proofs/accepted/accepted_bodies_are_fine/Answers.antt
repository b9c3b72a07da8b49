use Rattle.cv_inline_names_laws.proofs.accepted.Functions.{accepted_fine}
use Rattle.cv_inline_names_laws.proofs.accepted.accepted_bodies_are_fine.Goals as goal

pub returns : goal.returns
returns c = accepted_fine
