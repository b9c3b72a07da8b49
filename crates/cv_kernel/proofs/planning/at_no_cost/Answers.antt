use Rattle.std.proofs.Common.{refl}
use Rattle.cv_kernel.proofs.Answers.{free_plan}
use Rattle.cv_kernel.proofs.planning.at_no_cost.Goals as goal

pub returns : goal.returns
returns c = λ trees s o. free_plan trees s o _ refl
