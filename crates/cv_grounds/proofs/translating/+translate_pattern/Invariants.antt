use Rattle.cv_grounds.proofs.translating.+translate_pattern.Given as goal

abbrev pub decreases-translate_pattern : goal.decreases-translate_pattern
decreases-translate_pattern l = l.n.0
