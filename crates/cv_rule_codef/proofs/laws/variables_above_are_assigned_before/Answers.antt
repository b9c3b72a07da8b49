use Rattle.cv_rule_codef.proofs.Together.{assigned_above}
use Rattle.cv_rule_codef.proofs.laws.variables_above_are_assigned_before.Goals as goal

pub returns : goal.returns
returns c = λ ds g m a game t x y constants w e. assigned_above ds g game constants w m a t x y e
