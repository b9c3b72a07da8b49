use Rattle.cv_rule_codef.proofs.Together.{together}
use Rattle.cv_rule_codef.proofs.laws.adjacent_variables_are_assigned_together.Goals as goal

pub returns : goal.returns
returns c = λ ds g m a game t x y constants w e. together ds g game constants w m a t x y e
