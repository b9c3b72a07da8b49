use Rattle.std.proofs.Common.{refl}
use Rattle.cv_print_scripts.proofs.steps.scripts_tell_apart.Goals as goal

pub returns-clause-apart : goal.returns-clause-apart
returns-clause-apart c = refl

pub returns-clause-step : goal.returns-clause-step
returns-clause-step c = refl

pub returns-clause-script : goal.returns-clause-script
returns-clause-script c = refl
