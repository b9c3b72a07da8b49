use Rattle.cv_parse_sorts.proofs.Closed.{equations_closed}
use Rattle.cv_parse_sorts.proofs.files_have_closed_equations.Goals as goal

pub returns : goal.returns
returns c = equations_closed
