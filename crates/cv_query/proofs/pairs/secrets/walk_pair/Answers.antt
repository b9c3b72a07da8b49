use Rattle.std.proofs.Common.{rules}
use Rattle.cv_syntax.proofs.Trees.{empty_at}
use Rattle.cv_scene_view.specs.Kept.{scene_of}
use Rattle.cv_query_offences.specs.Copies.{copy_seen}
use Rattle.cv_query.specs.pairs.CopyPairs.{needed_of_both}
use Rattle.cv_query.proofs.pairs.Copying.{lacks}
use Rattle.cv_query.proofs.pairs.secrets.walk_pair.Goals as goal

pub returns-in_default-clause-goes : goal.returns-in_default-clause-goes
returns-in_default-clause-goes c =
    let old = c.args.work.now in
    let s = scene_of old.pool old.decls c.args.game in
    let trees = old.pool.trees in
    let needed = needed_of_both s c.args.raise (copy_seen trees c.args.one) (copy_seen trees c.args.other) in
    lacks s c.args.raise trees needed c.args.left.now.parts _ (search rules) (empty_at trees c.args.left.now.parts c.in_default.is)
