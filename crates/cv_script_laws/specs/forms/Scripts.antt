-- What spells a script, by the forms that the table of scripts means.
use Rattle.std.specs.Prelude.{◌≡◌, ℕ, ◌+◌, ◌≤◌, List, []}
use Rattle.cv_syntax_trees.specs.Tree.{Tree}
use Rattle.cv_parse_notation.specs.declared.sign.Sign.{Sign}
use Rattle.cv_parse_notation.specs.Form.{Form}
use Rattle.cv_parse_notation.specs.Spells.{Use}
use Rattle.cv_parse_notation.specs.Whole.{IsWhole, SpellsWith}
use Rattle.cv_parse_grammar.specs.declared.role.Role.{Role}
use Rattle.cv_parse_grammar.specs.Files.{levels}
use Rattle.cv_parse_tables.specs.Table.{Row, TableSort, table_heads, table_rule}
use Rattle.cv_script.specs.rows.Rows.{script_row, script_rows}
use Rattle.cv_script.specs.reader.Scripts.{items as items_of}
use Rattle.cv_syntax.specs.limits.Limits.{nodes_of}

-- the form of a script
abbrev pub script_form : Form Role TableSort Tree
script_form = table_rule script_rows (Row script_row)

-- these tokens, and no others, spell a script, and use names so
abbrev pub IsScript : List Sign → Tree → List (Use Role) → Type 0
IsScript signs script uses = SpellsWith (table_heads script_rows) (table_rule script_rows) script_form levels signs script uses []

-- these tokens, and no others, spell some script
abbrev pub IsSomeScript : List Sign → Type 0
IsSomeScript signs = IsWhole (table_heads script_rows) (table_rule script_rows) script_form levels signs

-- The steps are the items of a script that these tokens spell, and a pool with so many nodes and this limit has room for it.
pub record Takes (limit live : ℕ) (signs : List Sign) (steps : List Tree) : Type 0 where
  pub script : Tree
  pub uses : List (Use Role)
  pub spelled : IsScript signs script uses
  pub items : steps ≡ items_of script
  pub room : live + nodes_of script ≤ limit
