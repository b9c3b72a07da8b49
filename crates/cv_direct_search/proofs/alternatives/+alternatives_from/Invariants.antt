use Rattle.cv_direct_search.proofs.alternatives.+alternatives_from.Given as goal

abbrev pub decreases-alternatives_from : goal.decreases-alternatives_from
decreases-alternatives_from l = l.start.0
