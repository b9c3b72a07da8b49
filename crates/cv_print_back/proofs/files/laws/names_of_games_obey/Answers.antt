use Rattle.cv_print_back.proofs.files.Back.{names_obey}
use Rattle.cv_print_back.proofs.files.laws.names_of_games_obey.Goals as goal

pub returns : goal.returns
returns c = λ limit signs p w trees ds d. names_obey limit signs p trees ds w d
