use Rattle.cv_meaning.specs.Runs.{Events}
use Rattle.cv_query_laws.proofs.routes.Executed.{all_met_by_visits}
use Rattle.cv_query_laws.proofs.routes.entries_are_met_by_visits.Goals as goal

pub returns : goal.returns
returns c = λ s query ready sound correspondence closed i model a place entry entered.
    all_met_by_visits s query ready sound correspondence closed i model a place entry entered
    (c.stores_are_typed_at_each_visit.ensures s.declarations s.game ready.arguments ready.formed ready.typed ready.names ready.sorts i model Events a)
