use Rattle.std.proofs.Common.{refl}
use Rattle.cv_meaning.specs.Tapes.{written, sum_below, count, total}
use Rattle.cv_meaning_chances.proofs.reached_bounds.Goals as goal

pub returns-clause-hit : goal.returns-clause-hit
unfolding written sum_below count total
returns-clause-hit c = refl

pub returns-clause-pair : goal.returns-clause-pair
unfolding written sum_below count total
returns-clause-pair c = refl

pub returns-clause-bad : goal.returns-clause-bad
unfolding written sum_below count total
returns-clause-bad c = refl
