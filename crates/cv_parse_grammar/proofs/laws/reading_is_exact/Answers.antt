use Rattle.std.proofs.Common.{[], refl}
use Rattle.cv_parse_notation.proofs.Levels.{one_level_more}
use Rattle.cv_parse_notation.proofs.Whole.{whole_sound, whole_complete, syntax_is_final}
use Rattle.cv_parse_grammar.specs.Rules.{rule, heads, tails, file}
use Rattle.cv_parse_grammar.proofs.Fitting.{all_fit, file_fits}
use Rattle.cv_parse_grammar.proofs.laws.reading_is_exact.Goals as goal

pub returns-clause-sound : goal.returns-clause-sound
returns-clause-sound c = λ n ts x e. whole_sound heads tails rule all_fit file file_fits refl n ts x e

pub returns-clause-complete : goal.returns-clause-complete
returns-clause-complete c = λ n ts f us d. whole_complete heads tails rule all_fit file file_fits refl n ts f us d

pub returns-clause-faults : goal.returns-clause-faults
returns-clause-faults c = λ n ts left e. syntax_is_final heads tails rule all_fit file file_fits refl n ts left e

pub returns-clause-deeper : goal.returns-clause-deeper
returns-clause-deeper c = λ n ts f us d. one_level_more heads rule file n ts f us [] d
