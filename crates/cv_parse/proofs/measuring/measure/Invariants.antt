use Rattle.cv_parse.proofs.Sizes.{IsMeasured}
use Rattle.cv_parse.proofs.measuring.measure.Given as goal

abbrev pub invariant-parts : goal.invariant-parts
invariant-parts l = IsMeasured l.makes l.make-index l.nodes l.depths.items
