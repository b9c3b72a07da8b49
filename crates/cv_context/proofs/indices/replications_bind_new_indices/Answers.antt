use Rattle.cv_scope_rules.specs.Scope.{names_of}
use Rattle.cv_scope_rules.specs.Standing.{at_root}
use Rattle.cv_context.proofs.indices.Replications.{all_new}
use Rattle.cv_context.proofs.indices.replications_bind_new_indices.Goals as goal

pub returns : goal.returns
returns c ds game formed = all_new (names_of ds game) at_root game formed.scoped
