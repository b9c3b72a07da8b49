use Rattle.std.proofs.Common.{sym, ◌∙◌}
use Rattle.cv_syntax.specs.PoolTrees.{tree_at}
use Rattle.cv_scene_view.specs.Kept.{scene_of}
use Rattle.cv_derive.specs.Seconds.{pair_of}
use Rattle.cv_derive.proofs.Seeing.{seen_from_first}
use Rattle.cv_derive.proofs.pairs.first_bad_of_pair.Goals as goal

pub returns : goal.returns
returns c =
    let trees = c.args.work.now.pool.trees in
    let s = pair_of trees (scene_of c.args.work.now.pool c.args.work.now.decls c.args.game.root) c.args.place c.args.second.now in
    c.first_bad.ensures ∙ sym (seen_from_first s (tree_at trees c.args.by))
