use Rattle.std.proofs.Common.{[]}
use Rattle.cv_scene_view.specs.Kept.{scene_of}
use Rattle.cv_query_offences.specs.Copies.{copy_seen}
use Rattle.cv_query.proofs.pairs.Copying.{as_needed, of_one}
use Rattle.cv_query.proofs.pairs.secrets.walk_both.Goals as goal

pub returns-clause-goes : goal.returns-clause-goes
returns-clause-goes c =
    let old = c.args.work.now in
    let s = scene_of old.pool old.decls c.args.game in
    let trees = old.pool.trees in
    let same = of_one s c.args.raise trees (copy_seen trees c.args.one) (copy_seen trees c.args.other) c.are_of_one.result c.are_of_one.ensures c.if-not-are_of_one.false in
    as_needed s c.args.raise trees c.args.left.now.parts c.walk_pair.new.left.parts c.in_ok-stopped.stopped _ _ [] same c.in_ok-stopped.ensures.goes
