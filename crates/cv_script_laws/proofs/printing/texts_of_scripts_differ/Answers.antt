use Rattle.std.proofs.Common.{refl, suc}
use Rattle.cv_parse_grammar.specs.Files.{levels}
use Rattle.cv_script.specs.rows.Rows.{script_row, script_rows}
use Rattle.cv_print_scripts.proofs.Texts.{one_row, one_step}
use Rattle.cv_script_laws.proofs.printing.Back.{unambiguous}
use Rattle.cv_script_laws.proofs.printing.texts_of_scripts_differ.Goals as goal

pub returns-clause-unambiguous : goal.returns-clause-unambiguous
returns-clause-unambiguous c = unambiguous

pub returns-clause-scripts : goal.returns-clause-scripts
returns-clause-scripts c = λ names n k s t are i j d e f g h. one_row script_rows names (suc levels) n k script_row s t refl refl refl unambiguous are i j d e f g h

pub returns-clause-steps : goal.returns-clause-steps
returns-clause-steps c = λ names n k s t are i j d e f g h. one_step names (suc levels) n k s t unambiguous are i j d e f g h
