use Rattle.cv_parse_laws.proofs.Games.{well_formed}
use Rattle.cv_parse_laws.proofs.games_in_scope_are_well_formed.Goals as goal

pub returns : goal.returns
returns c = well_formed
