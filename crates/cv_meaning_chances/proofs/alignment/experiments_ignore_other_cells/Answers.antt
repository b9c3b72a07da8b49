use Rattle.cv_meaning_chances.proofs.alignment.Closing.{others_ignored, others_ignored_in_games}
use Rattle.cv_meaning_chances.proofs.alignment.experiments_ignore_other_cells.Goals as goal

pub returns-clause-listed : goal.returns-clause-listed
returns-clause-listed c = others_ignored

pub returns-clause-games : goal.returns-clause-games
returns-clause-games c = others_ignored_in_games
