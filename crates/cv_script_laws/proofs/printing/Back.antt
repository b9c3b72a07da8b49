-- What is spelled to the end, with the levels of a script, is read.
use Rattle.std.proofs.Common.{ℕ, suc, ◌+◌, ◌≤◌, List}
use Rattle.cv_syntax_trees.specs.Tree.{Tree}
use Rattle.cv_parse_notation.specs.Spells.{IsSort}
use Rattle.cv_parse_tables.specs.terminals.ScriptSigns.{script_signs}
use Rattle.cv_parse_grammar.specs.Files.{levels}
use Rattle.cv_script.specs.reader.Scripts.{items}
use Rattle.cv_syntax.specs.limits.Limits.{nodes_of}
use Rattle.cv_script_laws.proofs.forms.Deciding.{one_script, takes}
use Rattle.cv_script.specs.rows.Rows.{script_row, script_rows}
use Rattle.cv_print_scripts.specs.steps.Shown.{Words}
use Rattle.cv_print_scripts.specs.Texts.{IsReadAs, IsUnambiguous, words_among}
use Rattle.cv_script_laws.specs.printing.Back.{ComesBack}

pub comes_back : (limit live from : ℕ) (names : List (List ℕ)) (text : List ℕ) (needs : Words → ℕ) (t : Tree) → IsReadAs names text script_rows script_row needs t → ((words : Words) → needs words ≤ suc levels) → live + nodes_of t ≤ limit → ComesBack limit live from names text (items t)
unfolding IsSort
comes_back limit live from names text needs t r fits room =
    let s = r.spelled (suc levels) (fits (words_among (script_signs names r.tokens).names)) in
    record { tokens = r.tokens; lexed = r.lexed; read = takes limit live from (script_signs names r.tokens).signs t s.0 s.1 room }

-- signs spell one script at most
pub unambiguous : IsUnambiguous script_rows script_row (suc levels)
unfolding IsSort
unambiguous ss s t us vs d e = one_script ss s t us vs d e
