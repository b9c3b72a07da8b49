use Rattle.std.proofs.Common.{refl, ◌∙◌}
use Rattle.cv_syntax.specs.PoolTrees.{tree_at}
use Rattle.cv_scene.specs.Scenes.{Scene}
use Rattle.cv_scene_view.specs.Kept.{scene_of}
use Rattle.cv_query_certificates.specs.Marks.{plain}
use Rattle.cv_query.proofs.pairs.Tried.{proved_by}
use Rattle.cv_query.proofs.pairs.proving.proves_pair.Goals as goal

pub returns-clause-proves : goal.returns-clause-proves
returns-clause-proves c =
    let s : Scene = scene_of c.args.work.now.pool c.args.work.now.decls c.args.game in
    let trees = c.args.work.now.pool.trees in
    let k = c.args.taken.now.raise in
    let by = plain k (tree_at trees c.args.pairing.by) in
    c.in_ok-proves.ensures.proved
    ∙ proved_by s k c.args.taken.now.distinct.now c.as_slice.result.now c.in_ok-ends.ends trees c.args.pairing by refl (c.in_ok-ends.ensures k by)
