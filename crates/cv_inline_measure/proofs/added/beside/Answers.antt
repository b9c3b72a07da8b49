use Rattle.cv_inline_measure.proofs.Adding.{beside_told}
use Rattle.cv_inline_measure.proofs.added.beside.Goals as goal

pub returns : goal.returns
returns c e f h i = beside_told c.args.measure c.args.a c.args.b e f _ _ _ c.join.ensures c.join-2.ensures c.join-3.ensures h i
