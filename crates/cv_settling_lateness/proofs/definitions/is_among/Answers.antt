use Rattle.std.proofs.Common.{sym, ◌∙◌}
use Rattle.cv_settling_lateness.proofs.Searching.{found, item_past, item_there, next_within, none_within, rising}
use Rattle.cv_settling_lateness.proofs.definitions.is_among.Goals as goal

pub returns-in-Ok : goal.returns-in-Ok
returns-in-Ok c sorted = found c.args.x c.args.low c.args.high c.args.list.now sorted c.in-Ok.field-0 c.in-Ok.ensures.bound c.in-Ok.ensures.position

pub returns-in-Some : goal.returns-in-Some
returns-in-Some c sorted =
    let xs = c.args.list.now in
    c.is_before.ensures
    ∙ next_within c.args.x c.args.low c.args.high xs sorted c.in-Err.k (c.in-Err.ensures.position (rising c.args.x c.args.low c.args.high xs sorted)) c.in-Some.next.now (item_there xs c.in-Err.k c.get.result c.in-Some.next c.in-Some.is c.get.ensures.lookup)

pub returns-in-None : goal.returns-in-None
returns-in-None c sorted =
    let xs = c.args.list.now in
    sym (none_within c.args.x c.args.low c.args.high xs sorted c.in-Err.k (c.in-Err.ensures.position (rising c.args.x c.args.low c.args.high xs sorted)) (item_past xs c.in-Err.k c.get.result c.in-None.is c.get.ensures.lookup))
