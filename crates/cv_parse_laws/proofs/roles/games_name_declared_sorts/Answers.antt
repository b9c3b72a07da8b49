use Rattle.cv_parse_laws.proofs.roles.Games.{sorts_declared}
use Rattle.cv_parse_laws.proofs.roles.games_name_declared_sorts.Goals as goal

pub returns : goal.returns
returns c = sorts_declared
