use Rattle.cv_syntax.specs.Walks.{above}
use Rattle.cv_settling_lateness.proofs.lateness.Lateness.parting.Given as goal

abbrev pub decreases-way : goal.decreases-way
decreases-way l = above l.down.here.at
