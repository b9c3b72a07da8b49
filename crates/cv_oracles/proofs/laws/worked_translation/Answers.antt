use Rattle.std.proofs.Common.{refl}
use Rattle.cv_parse_tables.specs.spelling.Spelling.{mark_of_text}
use Rattle.cv_oracles.specs.Translations.{declarations_end_from, kept_from, oracles_from, process_from, written_from}
use Rattle.cv_oracles.proofs.laws.worked_translation.Goals as goal

pub returns-clause-texts : goal.returns-clause-texts
unfolding mark_of_text declarations_end_from kept_from oracles_from process_from written_from
returns-clause-texts c = refl

pub returns-clause-numbers : goal.returns-clause-numbers
unfolding mark_of_text declarations_end_from kept_from oracles_from process_from written_from
returns-clause-numbers c = refl
