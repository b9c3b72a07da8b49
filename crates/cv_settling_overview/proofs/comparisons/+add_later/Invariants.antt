use Rattle.cv_settling_overview.proofs.comparisons.+add_later.Given as goal

abbrev pub decreases-add_later : goal.decreases-add_later
decreases-add_later l = l.start.0
