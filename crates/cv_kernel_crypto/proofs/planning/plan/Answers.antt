use Rattle.cv_directory.specs.Tables.{seen}
use Rattle.cv_scene_view.specs.Kept.{scene_of}
use Rattle.cv_kernel_crypto.proofs.Shaping.{directory_is, shape_is}
use Rattle.cv_kernel_crypto.proofs.planning.plan.Goals as goal

pub returns-clause-shape : goal.returns-clause-shape
returns-clause-shape c =
    let w = c.args.work.now in
    let s = scene_of w.pool w.decls c.args.game in
    let f = c.in_ok-instances.ensures in
    shape_is w.pool.trees s c.args.game c.args.equivalence c.args.key c.in_ok-instances.instances c.as_slice-sites.result.now (seen c.in-OfGame.directory) c.in_ok-shape.shape c.requires.formed
    (directory_is c.args.arrays.now c.in-OfGame.directory _ c.requires.arrays c.in-OfGame.is) f.found f.met c.as_slice-sites.ensures.value (c.in_ok-shape.ensures s)
