use Rattle.cv_closure.proofs.closure.Closure.+instance.Given as goal

abbrev pub decreases-instance : goal.decreases-instance
decreases-instance l = l.p.0
