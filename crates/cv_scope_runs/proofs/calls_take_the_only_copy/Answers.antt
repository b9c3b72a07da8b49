use Rattle.cv_scope_rules.proofs.Apart.{game_branches}
use Rattle.cv_scope_rules.specs.Phrases.{Inputs}
use Rattle.cv_scope_runs.proofs.Plain.{plain_no_calls}
use Rattle.cv_scope_rules.proofs.Plain.{phrase_plain}
use Rattle.cv_scope_runs.proofs.InputsApart.{inputs_distinct}
use Rattle.cv_scope_runs.proofs.calls_take_the_only_copy.Goals as goal

pub returns-clause-available : goal.returns-clause-available
returns-clause-available c = λ ds g m a game t w. inputs_distinct g m a game t (game_branches ds game w.scoped)

pub returns-clause-no_oracles : goal.returns-clause-no_oracles
returns-clause-no_oracles c = λ ds game w. plain_no_calls game (phrase_plain Inputs game w.phrase)
