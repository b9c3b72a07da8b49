use Rattle.cv_parse_laws.proofs.Games.{game_is}
use Rattle.cv_parse_laws.proofs.no_constant_is_bound.Goals as goal

pub returns : goal.returns
returns c = λ limit signs p e. (game_is limit signs p e).free
