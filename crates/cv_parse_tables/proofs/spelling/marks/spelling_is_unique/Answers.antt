use Rattle.cv_parse_tables.proofs.spelling.Table.{found, only, find_is_none}
use Rattle.cv_parse_tables.proofs.spelling.marks.spelling_is_unique.Goals as goal

pub returns : goal.returns
returns c = record { found = found; only = only; find_is_none = find_is_none }
