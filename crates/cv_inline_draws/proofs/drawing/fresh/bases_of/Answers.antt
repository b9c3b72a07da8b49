use Rattle.cv_inline_draws.proofs.drawing.Tabled.{bases_more}
use Rattle.cv_inline_draws.proofs.drawing.fresh.bases_of.Goals as goal

pub loop-draw-preserved : goal.loop-draw-preserved
loop-draw-preserved c = bases_more c.args.draws.now c.loop-draw.draw-index _ c.loop-draw.bases.items c.push.new.self.items c.loop-draw-test.true c.in_ok-push.ensures.items c.loop-draw.invariant
