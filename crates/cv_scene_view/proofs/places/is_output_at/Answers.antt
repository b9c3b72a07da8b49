use Rattle.std.proofs.Common.{ap, ◌∙◌}
use Rattle.cv_meaning.specs.Replaced.{is_output}
use Rattle.cv_scene.specs.Scenes.{or_empty}
use Rattle.cv_scene_view.proofs.places.is_output_at.Goals as goal

pub returns-in-Some : goal.returns-in-Some
returns-in-Some c = c.is_output.ensures ∙ ap (λ o. is_output (or_empty o)) c.in-Some.ensures.tree

pub returns-in-None : goal.returns-in-None
returns-in-None c = ap (λ o. is_output (or_empty o)) c.in-None.ensures.tree
