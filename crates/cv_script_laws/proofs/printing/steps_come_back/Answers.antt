use Rattle.std.proofs.Common.{refl, ◌∷◌, []}
use Rattle.cv_syntax_trees.specs.Tree.{chain}
use Rattle.cv_script.specs.rows.Rows.{script_row, script_rows}
use Rattle.cv_print_scripts.proofs.Texts.{row_is_read, step_is_read}
use Rattle.cv_script_laws.proofs.printing.Back.{comes_back}
use Rattle.cv_script_laws.proofs.printing.steps_come_back.Goals as goal

pub returns-clause-steps : goal.returns-clause-steps
returns-clause-steps c = λ limit live from n names t are k d fits room. comes_back limit live from names _ _ (chain (t ∷ [])) (step_is_read names n t are k d) fits room

pub returns-clause-scripts : goal.returns-clause-scripts
returns-clause-scripts c = λ limit live from n names t are k d fits room. comes_back limit live from names _ _ t (row_is_read script_rows names n script_row t refl refl refl are k d) fits room
