use Rattle.cv_inline_names_laws.proofs.cells.Swaps.{back, one_to_one}
use Rattle.cv_inline_names_laws.proofs.cells.right_cells_are_swapped.Goals as goal

pub returns-clause-back : goal.returns-clause-back
returns-clause-back c = back

pub returns-clause-one_to_one : goal.returns-clause-one_to_one
returns-clause-one_to_one c = one_to_one
