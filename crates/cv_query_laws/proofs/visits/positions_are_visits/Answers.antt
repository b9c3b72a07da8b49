use Rattle.std.proofs.Common.{ap, sym, ◌∙◌}
use Rattle.std.specs.Prelude.{slice_get}
use Rattle.cv_meaning.specs.Experiments.{visits_of_run}
use Rattle.cv_query_laws.proofs.visits.Positions.{event_at, event_position, executed_at, run_events}
use Rattle.cv_query_laws.proofs.visits.positions_are_visits.Goals as goal

pub returns-clause-events : goal.returns-clause-events
returns-clause-events c = λ g m a game t n e k.
    event_at g (visits_of_run g m a game t) n e (ap (λ es. slice_get es n) (sym (run_events g m a game t)) ∙ k)

pub returns-clause-visits : goal.returns-clause-visits
returns-clause-visits c = λ g m a game t n v k.
    let r = executed_at g (visits_of_run g m a game t) n v k in
    (r.0, ap (λ es. slice_get es n) (run_events g m a game t) ∙ r.1, r.2)

pub returns-clause-once : goal.returns-clause-once
returns-clause-once c = event_position
