use Rattle.cv_inline_laws.proofs.runs.Runs.{runs_alike, experiments_hold_alike}
use Rattle.cv_inline_laws.proofs.runs.a_context_runs_as_its_next_game.Goals as goal

pub returns-clause-runs : goal.returns-clause-runs
returns-clause-runs c = runs_alike

pub returns-clause-tests : goal.returns-clause-tests
returns-clause-tests c = experiments_hold_alike
