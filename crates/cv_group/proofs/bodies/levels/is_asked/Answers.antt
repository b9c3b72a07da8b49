use Rattle.cv_group.proofs.bodies.Scans as scan
use Rattle.cv_group.proofs.bodies.levels.is_asked.Goals as goal

pub levels-preserved : goal.levels-preserved
levels-preserved c = record { same = scan.asked_step c.args.v c.args.u c.levels.asked c.args.levels.now c.levels.k c.index-levels-k.result c.asking-asked.result _ c.levels-test.true c.asking-asked.ensures c.index-levels-k.is c.levels.invariant.same }

pub returns : goal.returns
returns c = scan.asked_end c.args.v c.args.u c.levels.asked _ c.args.levels.now c.levels.k c.levels-test.false c.levels.invariant.same
