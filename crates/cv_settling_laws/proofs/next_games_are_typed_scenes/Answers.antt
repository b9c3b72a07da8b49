use Rattle.cv_settling_laws.proofs.Tested.{tested}
use Rattle.cv_settling_laws.proofs.next_games_are_typed_scenes.Goals as goal

pub returns : goal.returns
returns c = tested
