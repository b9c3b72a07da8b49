use Rattle.std.proofs.Common.{refl}
use Rattle.cv_context_right_side.proofs.Steps as steps
use Rattle.cv_context_right_side.proofs.drawn_names_make_right_games.Goals as goal

pub returns : goal.returns
returns k r names labels i h d = (steps.c r h i names labels d, steps.right r h i names labels d, refl, refl)
