use Rattle.std.proofs.Common.{refl}
use Rattle.cv_meaning_chances.proofs.maps.Maps.{count_along, count_same_along, chance_along, chance_same_along}
use Rattle.cv_meaning_chances.proofs.maps.counts_along_maps_of_one_list.Goals as goal

pub returns-clause-counts : goal.returns-clause-counts
returns-clause-counts c = λ cs. count_along cs cs

pub returns-clause-same_counts : goal.returns-clause-same_counts
returns-clause-same_counts c = λ cs f q p t s x i looks. count_same_along cs cs f q p t s x i looks refl

pub returns-clause-chances : goal.returns-clause-chances
returns-clause-chances c = λ cs f q p x i looks. chance_along cs cs f q p x i looks refl

pub returns-clause-same_chances : goal.returns-clause-same_chances
returns-clause-same_chances c = λ cs f q p x i looks. chance_same_along cs cs f q p x i looks refl
