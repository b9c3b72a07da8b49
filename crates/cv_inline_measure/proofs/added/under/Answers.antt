use Rattle.cv_inline_measure.proofs.Adding.{under_told}
use Rattle.cv_inline_measure.proofs.added.under.Goals as goal

pub returns : goal.returns
returns c n e h i =
    under_told c.args.measure c.args.parts n c.args.a e c.one_copy.result c.below-below.result _ _ _ c.one_copy.ensures c.below-below.ensures c.over_node.ensures c.along.ensures c.along-2.ensures h i
