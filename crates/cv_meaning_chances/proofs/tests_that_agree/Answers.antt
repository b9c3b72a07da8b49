use Rattle.cv_meaning_chances.proofs.Unions.{count_agree_off, chance_agree_off, distance_agree_off}
use Rattle.cv_meaning_chances.proofs.tests_that_agree.Goals as goal

pub returns-clause-counts : goal.returns-clause-counts
returns-clause-counts c = count_agree_off

pub returns-clause-chances : goal.returns-clause-chances
returns-clause-chances c = chance_agree_off

pub returns-clause-distances : goal.returns-clause-distances
returns-clause-distances c = distance_agree_off
