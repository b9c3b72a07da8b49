use Rattle.std.proofs.Common.{sym, ◌∙◌}
use Rattle.cv_match_laws.proofs.Deciding.{found_instance, guess_only, instance_found}
use Rattle.cv_match_laws.proofs.instances_are_decided.Goals as goal

pub returns-clause-decided : goal.returns-clause-decided
returns-clause-decided c = λ M f I m r. (found_instance M f I m, instance_found M f I m r)

pub returns-clause-found : goal.returns-clause-found
returns-clause-found c = λ M f I m e. found_instance M f I m e

pub returns-clause-unique : goal.returns-clause-unique
returns-clause-unique c = λ M f I J m r i j. sym (guess_only M f I m r i) ∙ guess_only M f J m r j
