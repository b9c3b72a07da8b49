use Rattle.cv_meaning_chances.proofs.maps.ListedTapes.{contained_within, apart_pairs, each_contained}
use Rattle.cv_meaning_chances.proofs.maps.tapes_are_listed_once.Goals as goal

pub returns-clause-within : goal.returns-clause-within
returns-clause-within c = contained_within

pub returns-clause-apart : goal.returns-clause-apart
returns-clause-apart c = apart_pairs

pub returns-clause-each : goal.returns-clause-each
returns-clause-each c = each_contained
