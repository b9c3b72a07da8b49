use Rattle.std.proofs.Common.{true, ◌∙◌, mul-le-mul_right}
use Rattle.cv_meaning.specs.Tapes.{blank, total}
use Rattle.cv_meaning_laws.proofs.Counts.{count_true, count_false}
use Rattle.cv_meaning_chances.proofs.Within.{count_le_off, count_same_off, count_cases, count_at_most, total_above}
use Rattle.cv_meaning_chances.proofs.counts_of_tests.Goals as goal

pub returns-clause-always : goal.returns-clause-always
returns-clause-always c = count_true

pub returns-clause-never : goal.returns-clause-never
returns-clause-never c = count_false

pub returns-clause-at_most_all : goal.returns-clause-at_most_all
returns-clause-at_most_all c = count_at_most

pub returns-clause-some_tape : goal.returns-clause-some_tape
returns-clause-some_tape c = total_above

pub returns-clause-implied : goal.returns-clause-implied
returns-clause-implied c = λ cs p q t x h. count_le_off cs p q t x (λ u w off. h u w)

pub returns-clause-implied_chances : goal.returns-clause-implied_chances
returns-clause-implied_chances c = λ cs p q x h. mul-le-mul_right (total cs) (count_le_off cs p q blank x (λ u w off. h u w))

pub returns-clause-same : goal.returns-clause-same
returns-clause-same c = λ cs p q t x h. count_same_off cs p q t x (λ u w off. h u w)

pub returns-clause-complement : goal.returns-clause-complement
returns-clause-complement c = λ cs p t. count_cases cs (λ u. true) p t ∙ count_true cs t

pub returns-clause-cases : goal.returns-clause-cases
returns-clause-cases c = count_cases
