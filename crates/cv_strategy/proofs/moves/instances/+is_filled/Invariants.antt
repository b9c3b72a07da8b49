use Rattle.cv_strategy.proofs.moves.instances.+is_filled.Given as goal

abbrev pub decreases-is_filled : goal.decreases-is_filled
decreases-is_filled l = l.start.0
