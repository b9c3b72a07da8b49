use Rattle.cv_steps_laws.proofs.crypto.reductions.Taken.{are_taken, listed}
use Rattle.cv_steps_laws.proofs.crypto.reductions.taken_names_are_of_file_and_game.Goals as goal

pub returns-clause-listed : goal.returns-clause-listed
returns-clause-listed c = listed

pub returns-clause-taken : goal.returns-clause-taken
returns-clause-taken c = are_taken
