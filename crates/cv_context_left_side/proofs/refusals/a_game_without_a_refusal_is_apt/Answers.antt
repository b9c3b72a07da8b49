use Rattle.cv_context_left_side.proofs.refusals.Whole.{apt_game}
use Rattle.cv_context_left_side.proofs.refusals.a_game_without_a_refusal_is_apt.Goals as goal

pub returns : goal.returns
returns c r h = apt_game r h
