use Rattle.std.proofs.Common.{refl}
use Rattle.std.specs.Fmt.{digits}
use Rattle.cv_inline.proofs.worked_texts.Goals as goal

pub returns-clause-begins : goal.returns-clause-begins
unfolding digits
returns-clause-begins c = refl

pub returns-clause-goes_on : goal.returns-clause-goes_on
unfolding digits
returns-clause-goes_on c = refl

pub returns-clause-no_numbers : goal.returns-clause-no_numbers
unfolding digits
returns-clause-no_numbers c = refl

pub returns-clause-passed_over : goal.returns-clause-passed_over
unfolding digits
returns-clause-passed_over c = refl
