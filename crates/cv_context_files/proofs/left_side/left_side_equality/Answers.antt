use Rattle.cv_context_left_side.proofs.refusals.Whole.{apt_game, apt_test}
use Rattle.cv_context_left_side.proofs.cells.Chances.{equal_chances}
use Rattle.cv_context_files.proofs.left_side.left_side_equality.Goals as goal

pub returns : goal.returns
returns c r i x a fine arguments asked =
    equal_chances r (record { arguments = arguments; typed = fine.typed; names = fine.names; answered = fine.allowed; apt = apt_game r fine }) i x a (apt_test r fine x asked)
