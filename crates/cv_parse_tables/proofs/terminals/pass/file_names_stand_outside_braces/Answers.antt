use Rattle.std.proofs.Common.{ap}
use Rattle.cv_parse_tables.specs.terminals.Signs.{signs_in, with_right_sides}
use Rattle.cv_parse_tables.proofs.terminals.FileTokens.{plain_read}
use Rattle.cv_parse_tables.proofs.terminals.Outside.{names_outside, names_small}
use Rattle.cv_parse_tables.proofs.terminals.pass.file_names_stand_outside_braces.Goals as goal

pub returns : goal.returns
returns c = record { names = names_outside; plain = λ ts none. ap (λ l. with_right_sides (signs_in l)) (plain_read ts none); small = names_small }
