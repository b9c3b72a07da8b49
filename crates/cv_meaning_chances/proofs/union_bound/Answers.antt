use Rattle.cv_meaning_chances.proofs.Unions.{count_any, chance_any, chance_all}
use Rattle.cv_meaning_chances.proofs.union_bound.Goals as goal

pub returns-clause-counts : goal.returns-clause-counts
returns-clause-counts c = count_any

pub returns-clause-chances : goal.returns-clause-chances
returns-clause-chances c = chance_any

pub returns-clause-each : goal.returns-clause-each
returns-clause-each c = chance_all
