use Rattle.cv_context_right_side.proofs.Equality.{equal_chances}
use Rattle.cv_context_right_side.proofs.right_side_equality.Goals as goal

pub returns : goal.returns
returns c r k types i x a right setting asked = equal_chances r k types right i setting x a asked
