use Rattle.std.proofs.Common.{◌≡◌, drop}
use Rattle.std.specs.List.{list_all}
use Rattle.cv_scene.specs.Scenes.{has_place}
use Rattle.cv_scene_view.specs.Kept.{scene_of}
use Rattle.cv_rule_birthday.proofs.conditions.has_places.Given as goal

abbrev pub invariant-places : goal.invariant-places
invariant-places l = list_all (has_place (scene_of l.work.pool l.work.decls l.game)) (drop l.k l.places) ≡ list_all (has_place (scene_of l.work.pool l.work.decls l.game)) l.places
