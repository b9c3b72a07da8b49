use Rattle.cv_parse_tables.proofs.spelling.ScriptTable.{found, only}
use Rattle.cv_parse_tables.proofs.spelling.words.word_spelling_is_unique.Goals as goal

pub returns : goal.returns
returns c = record { found = found; only = only }
