use Rattle.std.proofs.Common.{◌≡◌, ◌+◌, ◌-◌, ◌∙◌, ap, arith, drop, length}
use Rattle.cv_meaning.specs.contexts.Inlined.{Drawn}
use Rattle.cv_inline.specs.terms.Drawings.{drawn_in}
use Rattle.cv_inline_draws.specs.drawing.Tables.{with_labels}
use Rattle.cv_inline_draws.proofs.drawing.Filled.{least_is_one, labels_begin, labels_more}
use Rattle.cv_inline_draws.proofs.drawing.filling.put_labels.Goals as goal

pub finds-init : goal.finds-init
finds-init c =
    let ds = c.args.finds.now in
    let xs = c.args.labels.now in
    let left = c.least-left.result in
    record {
      finds = omega (arith, c.least-left.ensures);
      labels = omega (arith, c.least-left.ensures);
      same = labels_begin ds xs (drawn_in c.args.drawing.now) left (least_is_one (length ds) (length xs) left c.least-left.ensures);
    }

pub finds-preserved : goal.finds-preserved
finds-preserved c =
    let ds = c.args.finds.now in
    let xs = c.args.labels.now in
    let start : Drawn = drawn_in c.args.drawing.now in
    let i = c.finds.left - 1 in
    let back : c.finds.left ≡ i + 1 = omega arith in
    record {
      finds = omega (arith, c.finds.invariant.finds);
      labels = omega (arith, c.finds.invariant.labels);
      same = labels_more ds xs start (drawn_in c.finds.drawing) (drawn_in c.put_label.new.drawing) i _ _ (omega (arith, c.finds.invariant.finds)) (omega (arith, c.finds.invariant.labels)) (c.finds.invariant.same ∙ ap (λ k. with_labels (drop k ds) (drop k xs) start) back) c.in_ok-put_label.ensures;
    }
