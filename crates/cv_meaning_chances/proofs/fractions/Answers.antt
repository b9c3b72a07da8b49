use Rattle.cv_meaning_chances.proofs.FractionLaws.{at_most_trans, plus_kept, distance_kept, triangle, within_distance, least_distance}
use Rattle.cv_meaning_chances.proofs.fractions.Goals as goal

pub returns-clause-transitive : goal.returns-clause-transitive
returns-clause-transitive c = at_most_trans

pub returns-clause-plus_kept : goal.returns-clause-plus_kept
returns-clause-plus_kept c = plus_kept

pub returns-clause-triangle : goal.returns-clause-triangle
returns-clause-triangle c = triangle

pub returns-clause-within_distance : goal.returns-clause-within_distance
returns-clause-within_distance c = within_distance

pub returns-clause-least_distance : goal.returns-clause-least_distance
returns-clause-least_distance c = least_distance

pub returns-clause-distance_kept : goal.returns-clause-distance_kept
returns-clause-distance_kept c = distance_kept
