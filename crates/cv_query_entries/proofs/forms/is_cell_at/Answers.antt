use Rattle.std.proofs.Common.{refl}
use Rattle.cv_scene.specs.Sights.{sight_at}
use Rattle.cv_query_parts.specs.Views.{scene_of}
use Rattle.cv_query_entries.proofs.forms.is_cell_at.Goals as goal

pub returns : goal.returns
returns c = c.is_typed_claim.ensures (sight_at (scene_of c.args.view.now) c.args.place) (record { declared = refl; sites = c.requires.ready.game.arrays; bound = c.requires.above })
