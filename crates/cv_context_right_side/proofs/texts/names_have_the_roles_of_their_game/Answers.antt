use Rattle.cv_context_right_side.proofs.texts.Roles.{key_gone, roles_of_indices, roles_of_names}
use Rattle.cv_context_right_side.proofs.texts.names_have_the_roles_of_their_game.Goals as goal

pub returns-clause-names : goal.returns-clause-names
returns-clause-names c T r formed named alike = roles_of_names r formed T named alike

pub returns-clause-indices : goal.returns-clause-indices
returns-clause-indices c T r formed named = roles_of_indices r formed T named

pub returns-clause-key : goal.returns-clause-key
returns-clause-key c r definition formed e = key_gone r formed definition e
