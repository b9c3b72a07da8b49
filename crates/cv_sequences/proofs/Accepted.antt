-- A sound step that is accepted leads to a ready game.
use Rattle.std.proofs.Common.{◌≡◌}
use Rattle.cv_syntax_trees.specs.Tree.{Tree}
use Rattle.cv_typing_runs.specs.Games.{HasConstants}
use Rattle.cv_derive_laws.specs.stores.Holding.{IsReady}
use Rattle.cv_derive_laws.specs.stores.Steps.{IsSound}
use Rattle.cv_scene.specs.Scenes.{Scene}
use Rattle.cv_steps.specs.Steps.{Cost, Step}
use Rattle.cv_steps.specs.Judgements.{Accepted, judgement_of}
use Rattle.cv_steps_laws.proofs.Keeping.{next_formed, next_known, next_named, next_typed}

pub step_ready : (s : Scene) (step : Step) (next : Tree) (cost : Cost) → IsSound step → HasConstants s.declarations → IsReady s.declarations s.game → judgement_of s step ≡ Accepted next cost → IsReady s.declarations next
step_ready s step next cost sound constants w e = record {
  arguments = w.arguments;
  equations = w.equations;
  formed = next_formed s step next cost e;
  typed = next_typed s step next cost e;
  names = next_known s step next cost constants e;
  cells = next_named s step next cost e;
  sorts = sound.declared s next cost w.formed.phrase w.sorts e;
}
