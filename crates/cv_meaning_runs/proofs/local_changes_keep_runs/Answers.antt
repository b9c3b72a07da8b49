use Rattle.cv_meaning_runs.proofs.Ends.{chances_alike}
use Rattle.cv_meaning_runs.proofs.Replacement.{replaced_alike, replaced_holds}
use Rattle.cv_meaning_runs.proofs.local_changes_keep_runs.Goals as goal

pub returns-clause-runs : goal.returns-clause-runs
returns-clause-runs r c a g m old new p game next t = replaced_alike (r.E.Expectation.visits t) a g m old new p game next t

pub returns-clause-chances : goal.returns-clause-chances
returns-clause-chances r c x a g old new p game next s = chances_alike g g x x a game next (λ t. replaced_holds (r.E.Expectation.visits t) x a g old new p game next t (s t))
