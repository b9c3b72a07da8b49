use Rattle.cv_inline.specs.Draws.{same_find, same_role, roles_of}
use Rattle.cv_inline.proofs.Named.{found_again, same_find_exact, same_role_exact}
use Rattle.cv_inline.proofs.drawn_names_have_their_roles.Goals as goal

pub returns-clause-names : goal.returns-clause-names
returns-clause-names c other ds names role = found_again same_role same_role_exact other (roles_of ds) names role

pub returns-clause-labels : goal.returns-clause-labels
returns-clause-labels c = found_again same_find same_find_exact
