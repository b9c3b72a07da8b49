use Rattle.std.proofs.Common.{true, refl, ◌∙◌}
use Rattle.cv_scene_view.specs.Kept.{scene_of}
use Rattle.cv_query.specs.declared.pairs.ends.Ends.{Ends}
use Rattle.cv_query.proofs.pairs.Copying.{copies_proved}
use Rattle.cv_query.proofs.pairs.secrets.proves_pair.Goals as goal

pub returns-clause-proves : goal.returns-clause-proves
returns-clause-proves c =
    let old = c.args.work.now in
    let tried : Ends = record { same = true; never = true; rows = c.in_ok-firsts.firsts } in
    c.in_ok-proves.ensures.proved ∙ copies_proved (scene_of old.pool old.decls c.args.game) c.args.raise _ tried old.pool.trees c.args.pair refl refl refl
