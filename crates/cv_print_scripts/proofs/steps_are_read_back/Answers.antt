use Rattle.std.proofs.Common.{refl}
use Rattle.cv_script.specs.rows.Rows.{script_row, script_rows}
use Rattle.cv_print_scripts.proofs.Texts.{row_is_read, step_is_read}
use Rattle.cv_print_scripts.proofs.steps_are_read_back.Goals as goal

pub returns-clause-scripts : goal.returns-clause-scripts
returns-clause-scripts c = λ names n t are k d. row_is_read script_rows names n script_row t refl refl refl are k d

pub returns-clause-steps : goal.returns-clause-steps
returns-clause-steps c = λ names n t are k d. step_is_read names n t are k d
