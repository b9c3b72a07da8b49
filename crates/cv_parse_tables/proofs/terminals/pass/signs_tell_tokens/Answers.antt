use Rattle.cv_parse_tables.proofs.terminals.Telling.{tell_all, count_all, numbers_below, names_apart, bool_first}
use Rattle.cv_parse_tables.proofs.terminals.pass.signs_tell_tokens.Goals as goal

pub returns : goal.returns
returns c = record { tell = tell_all; count = count_all; below = numbers_below; distinct = names_apart; bool_first = bool_first }
