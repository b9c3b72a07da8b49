use Rattle.cv_scope_rules.specs.Scope.{names_of}
use Rattle.cv_scope_rules.specs.Standing.{at_root}
use Rattle.cv_context.proofs.indices.Replications.{all_new}
use Rattle.cv_context.proofs.indices.Typed.{game_free}
use Rattle.cv_context.proofs.indices.indices_are_no_values.Goals as goal

pub returns : goal.returns
returns c ds game x T formed typed names value = game_free ds game x T value formed.phrase names (all_new (names_of ds game) at_root game formed.scoped) typed
