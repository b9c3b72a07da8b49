use Rattle.cv_context_runs.proofs.instances.Own.{site_without_refusal}
use Rattle.cv_context_runs.proofs.instances.sites_are_apt.Goals as goal

pub returns : goal.returns
returns c r s number own at none = site_without_refusal r own.left own.coins number s at own.formed own.arguments own.answers none
