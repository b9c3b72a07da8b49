use Rattle.cv_typing_runs.proofs.Worked.{constants, found_named, found_typed, found_well, arguments, found_known, found_declared, nameless_typed, nameless_well, nameless_unknown, nameless_untyped}
use Rattle.cv_typing_runs.proofs.worked_games.Goals as goal

pub returns-clause-typed : goal.returns-clause-typed
returns-clause-typed c = found_typed

pub returns-clause-well_formed : goal.returns-clause-well_formed
returns-clause-well_formed c = found_well

pub returns-clause-arguments : goal.returns-clause-arguments
returns-clause-arguments c = arguments

pub returns-clause-names : goal.returns-clause-names
returns-clause-names c = found_known

pub returns-clause-constants : goal.returns-clause-constants
returns-clause-constants c = constants

pub returns-clause-cells : goal.returns-clause-cells
returns-clause-cells c = found_named

pub returns-clause-sorts : goal.returns-clause-sorts
returns-clause-sorts c = found_declared

pub returns-clause-accepted : goal.returns-clause-accepted
returns-clause-accepted c = nameless_typed

pub returns-clause-in_scope : goal.returns-clause-in_scope
returns-clause-in_scope c = nameless_well

pub returns-clause-unknown : goal.returns-clause-unknown
returns-clause-unknown c = nameless_unknown

pub returns-clause-untyped : goal.returns-clause-untyped
returns-clause-untyped c = nameless_untyped
