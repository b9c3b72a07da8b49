use Rattle.cv_syntax.specs.Walks.{above}
use Rattle.cv_settling.proofs.measure.+measure_with.Given as goal

abbrev pub decreases-measure_with : goal.decreases-measure_with
decreases-measure_with l = above l.part
