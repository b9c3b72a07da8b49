use Rattle.cv_context_left_side.proofs.cells.Chances.{equal_chances, sizes}
use Rattle.cv_context_left_side.proofs.cells.left_sides_have_equal_chances.Goals as goal

pub returns-clause-sizes : goal.returns-clause-sizes
returns-clause-sizes c r i x a fine apt = sizes r fine i x a apt

pub returns-clause-chances : goal.returns-clause-chances
returns-clause-chances c r i x a fine apt = equal_chances r fine i x a apt
