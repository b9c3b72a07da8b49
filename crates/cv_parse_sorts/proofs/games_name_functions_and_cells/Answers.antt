use Rattle.cv_parse_sorts.proofs.NamedGames.{functions_and_cells_named}
use Rattle.cv_parse_sorts.proofs.games_name_functions_and_cells.Goals as goal

pub returns : goal.returns
returns c = functions_and_cells_named
