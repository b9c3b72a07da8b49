use Rattle.std.proofs.Common.{◌≡◌, take}
use Rattle.cv_scene_view.specs.Kept.{scene_of}
use Rattle.cv_costs.specs.Certificates.{collisions_for}
use Rattle.cv_costs.proofs.certificates.cost_of_certificate.Given as goal

abbrev pub invariant-names : goal.invariant-names
invariant-names l = l.list.items ≡ collisions_for (scene_of l.work.pool l.work.decls l.game) (take l.k l.names.items)
