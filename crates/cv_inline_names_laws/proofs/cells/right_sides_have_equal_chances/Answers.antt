use Rattle.cv_inline_names_laws.proofs.cells.Chances.{chances_of_context, chances_on_tapes}
use Rattle.cv_inline_names_laws.proofs.cells.right_sides_have_equal_chances.Goals as goal

pub returns-clause-texts : goal.returns-clause-texts
returns-clause-texts c = chances_on_tapes

pub returns-clause-contexts : goal.returns-clause-contexts
returns-clause-contexts c = chances_of_context
