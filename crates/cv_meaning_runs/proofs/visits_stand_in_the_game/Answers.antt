use Rattle.cv_meaning_runs.proofs.Placed.{visits_subtrees, inputs_subtrees}
use Rattle.cv_meaning_runs.proofs.visits_stand_in_the_game.Goals as goal

pub returns-clause-visits : goal.returns-clause-visits
returns-clause-visits c = visits_subtrees

pub returns-clause-inputs : goal.returns-clause-inputs
returns-clause-inputs c = inputs_subtrees
