use Rattle.cv_parse_laws.proofs.roles.Games.{constants_declared}
use Rattle.cv_parse_laws.proofs.roles.constants_are_functions.Goals as goal

pub returns : goal.returns
returns c = constants_declared
