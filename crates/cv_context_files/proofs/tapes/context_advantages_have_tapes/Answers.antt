use Rattle.cv_context_files.proofs.tapes.Tapes.{advantage_tapes, chance_tapes, context_values}
use Rattle.cv_context_files.proofs.tapes.context_advantages_have_tapes.Goals as goal

pub returns-clause-values : goal.returns-clause-values
returns-clause-values c = context_values

pub returns-clause-chances : goal.returns-clause-chances
returns-clause-chances c = chance_tapes

pub returns-clause-advantages : goal.returns-clause-advantages
returns-clause-advantages c = advantage_tapes
