use Rattle.cv_scene_view.specs.Kept.{scene_of}
use Rattle.cv_rule_move.proofs.merge.Planned.{naming_there, planned_change}
use Rattle.cv_rule_move.proofs.merge.planning.plan.Goals as goal

pub returns-in-Some : goal.returns-in-Some
returns-in-Some c =
    let trees = c.args.work.now.pool.trees in
    let s = scene_of c.args.work.now.pool c.args.work.now.decls c.args.game in
    naming_there trees s c.args.place c.in-Ok.site c.in-Ok.ensures.site c.in_ok-naming.field-0 c.in-Some.naming c.failed.result c.in_ok-naming.ensures c.in-Some.is c.failed.ensures

pub returns-in-None : goal.returns-in-None
returns-in-None c =
    let trees = c.args.work.now.pool.trees in
    let s = scene_of c.args.work.now.pool c.args.work.now.decls c.args.game in
    planned_change trees s c.args.place c.in-Ok.site c.in-Ok.ensures.site c.in_ok-naming.field-0 c.requires.small c.in_ok-naming.ensures c.in-None.is
