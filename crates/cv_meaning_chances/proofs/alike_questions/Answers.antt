use Rattle.cv_meaning.specs.Tapes.{blank}
use Rattle.cv_meaning_chances.proofs.Asking.{same_answers}
use Rattle.cv_meaning_chances.proofs.alike_questions.Goals as goal

pub returns : goal.returns
returns c = λ cs ds q r x y h. same_answers q r cs ds x y h blank blank
