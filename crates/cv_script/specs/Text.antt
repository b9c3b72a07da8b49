-- The text of a step, by the table of scripts.
use Rattle.std.specs.Prelude.{ℕ, List}
use Rattle.cv_syntax_trees.specs.Tree.{Tree}
use Rattle.cv_print_tables.specs.Prints.{tree_text}
use Rattle.cv_script.specs.rows.Rows.{script_rows, step_row}

-- how many levels of derivations a text has at most
abbrev pub text_levels : ℕ
text_levels = 200

unfoldable pub step_text : List (List ℕ) → Tree → List ℕ
step_text names t = tree_text script_rows names text_levels step_row t
