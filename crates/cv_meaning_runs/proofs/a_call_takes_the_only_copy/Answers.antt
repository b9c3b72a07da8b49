use Rattle.cv_meaning_runs.proofs.Addresses.{taken_alone, available_apart}
use Rattle.cv_meaning_runs.proofs.a_call_takes_the_only_copy.Goals as goal

pub returns-clause-taken : goal.returns-clause-taken
returns-clause-taken c = taken_alone

pub returns-clause-available : goal.returns-clause-available
returns-clause-available c = available_apart
