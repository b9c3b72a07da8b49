use Rattle.cv_parse_laws.proofs.Blocks.{names_around}
use Rattle.cv_parse_laws.proofs.names_stand_outside_the_block.Goals as goal

pub returns : goal.returns
returns c = names_around
