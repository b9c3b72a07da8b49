use Rattle.std.proofs.Common.{◌∙◌, ap, map}
use Rattle.cv_inline_sites.specs.listing.Listed.{draw_in}
use Rattle.cv_inline_sites.proofs.listing.EachOnce.{seen_more, step_new, step_old}
use Rattle.cv_inline_sites.proofs.listing.once.add_each_once.Goals as goal
use Rattle.cv_inline_sites.proofs.listing.once.add_each_once.Goals.{then-branch+in_ok-push, else-branch}

pub loop-draw-preserved : goal.loop-draw-preserved
loop-draw-preserved c =
    record {
      draws = elim c.if-branch.branch [
        | then-branch+in_ok-push w ↦ step_new c.loop-draw.seen (map draw_in c.args.draws.now.items) c.loop-draw.draws.items c.if-branch.draws.items c.args.all.now c.loop-draw.draw-index _ c.in_ok-insert.field-0 c.loop-draw-test.true c.in_ok-insert.ensures.added c.loop-draw.invariant.seen c.loop-draw.invariant.draws w.if-branch.true (ap (λ v. v.items) w.draws-is ∙ w.in_ok-push.ensures.items)
        | else-branch w ↦ step_old c.loop-draw.seen (map draw_in c.args.draws.now.items) c.loop-draw.draws.items c.if-branch.draws.items c.args.all.now c.loop-draw.draw-index _ c.in_ok-insert.field-0 c.loop-draw-test.true c.in_ok-insert.ensures.added c.loop-draw.invariant.seen c.loop-draw.invariant.draws w.if-branch.false (ap (λ v. v.items) w.draws-is)
      ];
      seen = seen_more c.loop-draw.seen c.insert.new.self c.args.all.now c.loop-draw.draw-index _ c.loop-draw-test.true c.in_ok-insert.ensures.updates c.loop-draw.invariant.seen;
    }
