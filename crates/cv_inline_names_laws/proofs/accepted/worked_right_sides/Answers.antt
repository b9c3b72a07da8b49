use Rattle.std.proofs.Common.{refl}
use Rattle.cv_inline_names_laws.specs.accepted.RightBodies.{are_body_cells, are_right_functions, is_body_term, is_right_body}
use Rattle.cv_inline_names_laws.proofs.accepted.worked_right_sides.Goals as goal

pub returns-clause-encryption : goal.returns-clause-encryption
unfolding are_right_functions is_body_term is_right_body are_body_cells
returns-clause-encryption c = refl

pub returns-clause-authentication : goal.returns-clause-authentication
unfolding are_right_functions is_body_term is_right_body are_body_cells
returns-clause-authentication c = refl

pub returns-clause-guess : goal.returns-clause-guess
unfolding are_right_functions is_body_term is_right_body are_body_cells
returns-clause-guess c = refl
