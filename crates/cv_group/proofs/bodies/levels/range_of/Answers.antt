use Rattle.cv_group.proofs.bodies.Scans as scan
use Rattle.cv_group.proofs.bodies.levels.range_of.Goals as goal

pub levels-preserved : goal.levels-preserved
levels-preserved c = record { same = scan.range_step c.args.u c.levels.over c.args.levels.now c.levels.k c.index-levels-k.result c.ranging-over.result _ c.levels-test.true c.ranging-over.ensures c.index-levels-k.is c.levels.invariant.same }

pub returns : goal.returns
returns c = scan.range_end c.args.u c.levels.over _ c.args.levels.now c.levels.k c.levels-test.false c.levels.invariant.same
