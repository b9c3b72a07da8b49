use Rattle.cv_match_laws.proofs.instances.Uses.{filled_alone, used_there, uses_apart}
use Rattle.cv_match_laws.proofs.instances.coins_are_used_at_their_site.Goals as goal

pub returns-clause-apart : goal.returns-clause-apart
returns-clause-apart c = uses_apart

pub returns-clause-there : goal.returns-clause-there
returns-clause-there c = used_there

pub returns-clause-alone : goal.returns-clause-alone
returns-clause-alone c names terms given other body x y z found used apart at term plain there count = filled_alone names terms z y given found used x other apart at body term plain there count
