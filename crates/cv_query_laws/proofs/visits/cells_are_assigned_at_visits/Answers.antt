use Rattle.cv_query_laws.proofs.visits.Assigned.{assigned_at}
use Rattle.cv_query_laws.proofs.visits.cells_are_assigned_at_visits.Goals as goal

pub returns : goal.returns
returns c = assigned_at
