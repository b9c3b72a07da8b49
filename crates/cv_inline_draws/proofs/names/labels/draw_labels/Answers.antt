use Rattle.std.proofs.Common.{arith, length, nat_eq}
use Rattle.std.specs.HashSet.{contains}
use Rattle.cv_inline.specs.Draws.{labels_from}
use Rattle.cv_inline_draws.proofs.names.LabelLists.{labels_more}
use Rattle.cv_inline_draws.proofs.names.Tries.{further, room}
use Rattle.cv_inline_draws.proofs.names.labels.draw_labels.Goals as goal

pub free_label-label-requires : goal.free_label-label-requires
free_label-label-requires c = room 1 c.draws.from c.args.count c.draws.counter (length c.args.taken.now) c.draws.invariant.near (omega (arith, c.draws-test.true)) (omega (arith, c.requires)) (omega arith)

pub draws-preserved : goal.draws-preserved
draws-preserved c =
    record {
      near = further 1 c.draws.from c.free_label-label.result c.draws.counter (length c.args.taken.now) c.draws.invariant.near c.free_label-label.ensures.few;
      labels = λ finds many. rw c.in_ok-push.ensures.items (labels_more c.args.taken.now (labels_from c.args.taken.now 1 finds) c.draws.labels.items (contains nat_eq c.in_ok-set.set) finds c.draws.from c.draws.counter c.free_label-label.result c.in_ok-set.ensures (omega (arith, many, c.draws-test.true)) c.free_label-label.ensures.label (c.draws.invariant.labels finds many));
    }
