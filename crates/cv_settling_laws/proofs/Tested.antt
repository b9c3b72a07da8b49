-- A game that passes the test of next games.
use Rattle.std.proofs.Common.{◌≡◌, true}
use Rattle.cv_typing_runs.specs.Games.{HasArguments, HasConstants}
use Rattle.cv_typing_runs.proofs.Games.{known}
use Rattle.cv_scene.specs.Scenes.{Scene}
use Rattle.cv_scene.specs.Terms.{is_game}
use Rattle.cv_steps_laws.proofs.Keeping.{game_formed}
use Rattle.cv_settling_laws.specs.Games.{IsTypedScene}

pub tested : (s : Scene) → HasArguments s.declarations → HasConstants s.declarations → is_game s.declarations s.game ≡ true → IsTypedScene s
tested s given constants e =
    let k = game_formed s.declarations s.game e in
    record { arguments = given; formed = k.formed; typed = k.typed; known = known s.declarations s.game constants k.formed k.named; named = k.named }
