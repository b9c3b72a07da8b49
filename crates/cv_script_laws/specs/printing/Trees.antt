-- A step that may be printed, and one whose text is read back. This profile's own.
use Rattle.std.specs.Prelude.{◌≡◌, ℕ, suc, ◌+◌, ◌≤◌, true, List, [], ◌∷◌, ◌++◌, codes}
use Rattle.cv_syntax_trees.specs.Tree.{Tree, chain}
use Rattle.cv_parse_grammar.specs.Files.{levels}
use Rattle.cv_syntax.specs.limits.Limits.{nodes_of}
use Rattle.cv_print_scripts.specs.Known.{is_known}
use Rattle.cv_print_scripts.specs.Texts.{FitsIn}
use Rattle.cv_script_laws.specs.printing.Back.{ComesBack}
use Rattle.cv_print_scripts.specs.steps.Trees.{IsTree}
use Rattle.cv_script.specs.rows.Rows.{script_rows, step_row}
use Rattle.cv_script.specs.Text.{step_text, text_levels}

-- a tree of the table of scripts, in as many levels as a text has, whose names are below so many and whose numbers fit 64 bits
pub record IsKnownStep (count : ℕ) (t : Tree) : Type 0 where
  pub tree : IsTree script_rows text_levels step_row t
  pub known : is_known count t ≡ true

-- By these names the step's text, with a semicolon, is read as this one step, where it is no deeper than a script may be and the
-- pool has room. A text has parentheses that were not read, so it may be too deep.
pub record IsReadBack (names : List (List ℕ)) (t : Tree) : Type 0 where
  pub comes_back : (limit live from : ℕ) → FitsIn script_rows text_levels step_row (suc levels) t → live + nodes_of (chain (t ∷ [])) ≤ limit → ComesBack limit live from names (step_text names t ++ codes ";") (t ∷ [])
