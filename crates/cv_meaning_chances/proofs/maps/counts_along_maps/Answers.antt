use Rattle.cv_meaning_chances.proofs.maps.Maps.{total_along, count_along, count_same_along, chance_along, chance_same_along}
use Rattle.cv_meaning_chances.proofs.maps.counts_along_maps.Goals as goal

pub returns-clause-totals : goal.returns-clause-totals
returns-clause-totals c = total_along

pub returns-clause-counts : goal.returns-clause-counts
returns-clause-counts c = count_along

pub returns-clause-same_counts : goal.returns-clause-same_counts
returns-clause-same_counts c = count_same_along

pub returns-clause-chances : goal.returns-clause-chances
returns-clause-chances c = chance_along

pub returns-clause-same_chances : goal.returns-clause-same_chances
returns-clause-same_chances c = chance_same_along
