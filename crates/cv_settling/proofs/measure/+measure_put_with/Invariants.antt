use Rattle.cv_syntax.specs.Walks.{above}
use Rattle.cv_settling.proofs.measure.+measure_put_with.Given as goal

abbrev pub decreases-measure_put_with : goal.decreases-measure_put_with
decreases-measure_put_with l = above l.part
