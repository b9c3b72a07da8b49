use Rattle.cv_sequences.proofs.Chains.{games_ready, games_unasked}
use Rattle.cv_sequences.proofs.chains_lead_to_ready_games.Goals as goal

pub returns-clause-ready : goal.returns-clause-ready
returns-clause-ready c = λ ds own first links last w k. games_ready ds own first w links last k

pub returns-clause-unasked : goal.returns-clause-unasked
returns-clause-unasked c = λ ds own first links last w k. games_unasked ds own first w links last k
