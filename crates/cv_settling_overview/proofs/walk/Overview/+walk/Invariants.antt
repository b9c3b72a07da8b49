use Rattle.cv_settling_overview.proofs.walk.Overview.+walk.Given as goal

abbrev pub decreases-walk : goal.decreases-walk
decreases-walk l = l.start.0
