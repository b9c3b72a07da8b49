use Rattle.cv_meaning_chances.proofs.Hits.{count_hit, count_chosen, chance_equal}
use Rattle.cv_meaning_chances.proofs.value_hit.Goals as goal

pub returns-clause-reached : goal.returns-clause-reached
returns-clause-reached c = count_hit

pub returns-clause-chances : goal.returns-clause-chances
returns-clause-chances c = chance_equal

pub returns-clause-chosen : goal.returns-clause-chosen
returns-clause-chosen c = count_chosen
