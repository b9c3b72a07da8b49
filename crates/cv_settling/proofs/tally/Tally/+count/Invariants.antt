use Rattle.cv_settling.proofs.tally.Tally.+count.Given as goal

abbrev pub decreases-count : goal.decreases-count
decreases-count l = l.start.0
