use Rattle.cv_context_laws.proofs.well_formed.Whole.{context_kept}
use Rattle.cv_context_laws.proofs.well_formed.contexts_keep_the_rules_of_scope.Goals as goal

pub returns : goal.returns
returns c = context_kept
