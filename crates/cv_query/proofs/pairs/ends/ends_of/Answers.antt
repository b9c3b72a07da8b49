use Rattle.std.proofs.Common.{rules, ◌≡◌, ◌∙◌, ap, true, false}
use Rattle.std.specs.Prelude.{◌==◌}
use Rattle.cv_scene.specs.Terms.{replications_at}
use Rattle.cv_scene_view.specs.Kept.{scene_of}
use Rattle.cv_query.proofs.pairs.Ending.{at_one, at_parting, not_parting}
use Rattle.cv_query.proofs.pairs.ends.ends_of.Goals as goal

pub returns-then-p-q : goal.returns-then-p-q
returns-then-p-q c =
    let s = scene_of c.args.work.now.pool c.args.work.now.decls c.args.game in
    let same : (c.args.p == c.args.q) ≡ true = search rules in
    λ k by. at_one k by s c.args.p c.args.q c.in_ok-rows.rows.items same c.in_ok-rows.ensures

pub returns-in_ok-rows-in-Some : goal.returns-in_ok-rows-in-Some
returns-in_ok-rows-in-Some c =
    let s = scene_of c.args.work.now.pool c.args.work.now.decls c.args.game in
    let differ : (c.args.p == c.args.q) ≡ false = search rules in
    λ k by. at_parting k by s c.args.p c.args.q differ c.parting.result c.parting.ensures c.in-Some.n c.in_ok-rows-in-Some.rows.items c.in-Some.is (c.in_ok-rows-in-Some.ensures ∙ ap (replications_at s) c.from.ensures)

pub returns-in-None : goal.returns-in-None
returns-in-None c =
    let s = scene_of c.args.work.now.pool c.args.work.now.decls c.args.game in
    let differ : (c.args.p == c.args.q) ≡ false = search rules in
    λ k by. not_parting k by s c.args.p c.args.q differ c.parting.result c.parting.ensures c.new.result.items c.in-None.is
