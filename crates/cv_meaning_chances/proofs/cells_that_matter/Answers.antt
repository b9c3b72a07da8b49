use Rattle.cv_meaning.specs.Tapes.{blank}
use Rattle.cv_meaning_chances.proofs.Covers.{same_chance}
use Rattle.cv_meaning_chances.proofs.cells_that_matter.Goals as goal

pub returns : goal.returns
returns c = λ p cs ds x y h k. same_chance p cs ds x y h k blank
