use Rattle.cv_sequences.proofs.Accepted.{step_ready}
use Rattle.cv_sequences.proofs.accepted_steps_are_within_their_costs.Goals as goal

pub returns-clause-ready : goal.returns-clause-ready
returns-clause-ready c = step_ready

pub returns-clause-chances : goal.returns-clause-chances
returns-clause-chances c s step next cost sound = sound.keeps s next cost
