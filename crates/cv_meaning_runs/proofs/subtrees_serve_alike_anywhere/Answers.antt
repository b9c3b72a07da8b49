use Rattle.cv_meaning_runs.proofs.Outputs.{served_elsewhere, opened_elsewhere, output_begins, output_opens}
use Rattle.cv_meaning_runs.proofs.subtrees_serve_alike_anywhere.Goals as goal

pub returns-clause-served : goal.returns-clause-served
returns-clause-served c = served_elsewhere

pub returns-clause-opened : goal.returns-clause-opened
returns-clause-opened c = opened_elsewhere

pub returns-clause-begins : goal.returns-clause-begins
returns-clause-begins c = output_begins

pub returns-clause-opens : goal.returns-clause-opens
returns-clause-opens c = output_opens
