use Rattle.std.proofs.Common.{◌∙◌}
use Rattle.cv_inline_measure.proofs.Counting.{part_told}
use Rattle.cv_inline_measure.proofs.game.copies_of.Goals as goal

pub returns : goal.returns
returns c = c.along.ensures ∙ part_told c.args.setting.now.measure c.extent_below-one.result _ c.args.copies c.extent_below-one.ensures
