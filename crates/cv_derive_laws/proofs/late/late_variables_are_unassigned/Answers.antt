use Rattle.cv_derive_laws.proofs.late.Visits.{all_unassigned, all_well_visited}
use Rattle.cv_derive_laws.proofs.late.late_variables_are_unassigned.Goals as goal

pub returns-clause-unassigned : goal.returns-clause-unassigned
returns-clause-unassigned c = λ ds g m a game t w. all_unassigned g m a game t ds w

pub returns-clause-visited : goal.returns-clause-visited
returns-clause-visited c = λ ds g m a game t e w. all_well_visited g m a game t ds e w
