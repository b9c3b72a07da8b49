use Rattle.cv_meaning_laws.proofs.adequacy.Sorted.{typed_value}
use Rattle.cv_meaning_laws.proofs.adequacy.TypedRuns.{games_keep, run_typed}
use Rattle.cv_meaning_laws.proofs.adequacy.TypedTapes.{tapes_typed}
use Rattle.cv_meaning_laws.proofs.adequacy.typed_variables_have_values.Goals as goal

pub returns-clause-terms : goal.returns-clause-terms
returns-clause-terms c = typed_value

pub returns-clause-runs : goal.returns-clause-runs
returns-clause-runs c = run_typed

pub returns-clause-games : goal.returns-clause-games
returns-clause-games c = games_keep

pub returns-clause-tapes : goal.returns-clause-tapes
returns-clause-tapes c = tapes_typed
