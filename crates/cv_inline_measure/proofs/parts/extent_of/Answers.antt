use Rattle.cv_inline_measure.proofs.Stacking.{all_parts, one_part, start_counts}
use Rattle.std.proofs.Common.{reverse}
use Rattle.cv_inline_measure.proofs.parts.extent_of.Goals as goal

pub parts-init : goal.parts-init
parts-init c = start_counts c.args.measure _ c.new-counts.ensures.items

pub parts-preserved : goal.parts-preserved
parts-preserved c = one_part c.args.measure c.args.parts.now c.parts.part-index _ (reverse c.add_part.new.counts.items) c.parts-test.true (c.in_ok-add_part.ensures _ c.parts.invariant)

pub returns : goal.returns
returns c = all_parts c.args.measure c.args.parts.now c.parts.part-index c.take_newest.result (reverse c.parts.counts.items) c.parts-test.false c.take_newest.ensures.count c.parts.invariant
