use Rattle.cv_print_back.proofs.files.Flat.{game_flat}
use Rattle.cv_print_back.proofs.files.laws.texts_are_flat.Goals as goal

pub returns : goal.returns
returns c = λ t. game_flat t
