use Rattle.std.proofs.Common.{length}
use Rattle.cv_strategy.proofs.moves.moves.suggest.Goals as goal

pub returns-in-Ok-proposal_of-clause-below : goal.returns-in-Ok-proposal_of-clause-below
returns-in-Ok-proposal_of-clause-below c = c.in-Ok-proposal_of.ensures (length c.args.pool.now.trees)
