use Rattle.cv_strategy.proofs.moves.reads.Reader.+walk.Given as goal

abbrev pub decreases-walk : goal.decreases-walk
decreases-walk l = l.start.0
