use Rattle.cv_steps_laws.proofs.Keeping.{next_formed, next_typed, next_named, next_known}
use Rattle.cv_steps_laws.proofs.accepted_steps_lead_to_games.Goals as goal

pub returns-clause-well_formed : goal.returns-clause-well_formed
returns-clause-well_formed c = next_formed

pub returns-clause-typed : goal.returns-clause-typed
returns-clause-typed c = next_typed

pub returns-clause-cells : goal.returns-clause-cells
returns-clause-cells c = next_named

pub returns-clause-names : goal.returns-clause-names
returns-clause-names c = next_known
