use Rattle.cv_parse_tables.specs.terminals.Signs.{signs_of}
use Rattle.cv_parse_laws.proofs.WrittenGames.{game_written}
use Rattle.cv_parse_laws.proofs.Signs.{signs_named}
use Rattle.cv_parse_laws.proofs.games_of_files_are_written.Goals as goal

pub returns : goal.returns
returns c = λ limit tokens p e. game_written limit (signs_of tokens).signs p (signs_named tokens) e
