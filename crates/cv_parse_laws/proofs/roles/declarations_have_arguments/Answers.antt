use Rattle.cv_parse_laws.proofs.roles.Games.{arguments_named}
use Rattle.cv_parse_laws.proofs.roles.declarations_have_arguments.Goals as goal

pub returns : goal.returns
returns c = arguments_named
