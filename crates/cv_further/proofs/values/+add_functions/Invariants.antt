use Rattle.cv_further.proofs.values.+add_functions.Given as goal

abbrev pub decreases-add_functions : goal.decreases-add_functions
decreases-add_functions l = l.start.0
