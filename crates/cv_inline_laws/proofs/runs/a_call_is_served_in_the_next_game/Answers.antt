use Rattle.cv_inline_laws.proofs.runs.CallCase.{call_in_place}
use Rattle.cv_inline_laws.proofs.runs.a_call_is_served_in_the_next_game.Goals as goal

pub returns : goal.returns
returns c T caller at made key es br m ar n follows related expected = call_in_place T caller at made key es br m ar n follows related expected
