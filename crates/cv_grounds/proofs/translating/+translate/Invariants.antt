use Rattle.cv_grounds.proofs.translating.+translate.Given as goal

abbrev pub decreases-translate : goal.decreases-translate
decreases-translate l = l.n.0
