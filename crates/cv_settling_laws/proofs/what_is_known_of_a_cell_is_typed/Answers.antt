use Rattle.cv_settling_laws.proofs.Places.{sites_typed}
use Rattle.cv_settling_laws.proofs.what_is_known_of_a_cell_is_typed.Goals as goal

pub returns : goal.returns
returns c = sites_typed
