use Rattle.cv_print_back.proofs.files.Back.{comes_back, shallow_is_flat}
use Rattle.cv_print_back.proofs.files.laws.games_of_files_come_back.Goals as goal

pub returns-clause-flat : goal.returns-clause-flat
returns-clause-flat c = λ limit bytes names p trees ds w d f. comes_back limit bytes names p trees ds w d f

pub returns-clause-shallow : goal.returns-clause-shallow
returns-clause-shallow c = λ limit bytes names p trees ds w d s. comes_back limit bytes names p trees ds w d (shallow_is_flat p.game s)
