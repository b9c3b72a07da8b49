use Rattle.std.proofs.Common.{refl}
use Rattle.cv_meaning_runs.proofs.Together.{consulted_same, visits_among_moments}
use Rattle.cv_meaning_runs.proofs.runs_depend_on_consulted_cells.Goals as goal

pub returns-clause-same : goal.returns-clause-same
returns-clause-same c = consulted_same

pub returns-clause-of_games : goal.returns-clause-of_games
returns-clause-of_games c t u arrays call h = refl

pub returns-clause-visits : goal.returns-clause-visits
returns-clause-visits c = visits_among_moments
