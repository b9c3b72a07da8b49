-- The game of what was read is written.
use Rattle.std.proofs.Common.{◌≡◌, ℕ, List, [], Option, Ok, subst}
use Rattle.cv_syntax_trees.specs.Declarations.{Declaration}
use Rattle.cv_syntax_trees.specs.Tree.{Tree}
use Rattle.cv_parse_notation.specs.declared.sign.Sign.{Sign}
use Rattle.cv_parse_grammar.specs.Files.{levels}
use Rattle.cv_parse_grammar.specs.Filled.{first_site}
use Rattle.cv_parse_grammar.specs.Rules.{File, file, heads, rule}
use Rattle.cv_parse_grammar.specs.Whole.{IsRead}
use Rattle.cv_parse.specs.Parsed.{Parsed, parsed}
use Rattle.cv_parse.proofs.Exactness.{said_is_saying}
use Rattle.cv_scope_rules.specs.Phrases.{Inputs}
use Rattle.cv_parse_laws.proofs.Games.{game_is}
use Rattle.cv_print_bytes.specs.terminals.Written.{IsWritten}
use Rattle.cv_parse_laws.specs.Words.{AreNamed, HasWords, WordsOfSort}
use Rattle.cv_parse_laws.proofs.WordFilling.{filled_words}
use Rattle.cv_parse_laws.proofs.WordRows.{of_file, rows}
use Rattle.cv_parse_laws.proofs.Tokens.{forms_tell}

read_words : (ts : List Sign) (ds : List Declaration) (s : Option (ℕ × ℕ)) (g : Tree) → IsRead ts ds s g → AreNamed ts → HasWords g
read_words ts ds s g w n =
    let f : File = record { decls = ds; script = s; game = w.text } in
    let y = forms_tell WordsOfSort heads rule rows file levels ts f w.uses [] w.spelled n in
    subst HasWords w.stands_for (filled_words (λ x. first_site x 0 w.text) [] w.text tt (of_file.gives f y.0))

pub game_written : (limit : ℕ) (signs : List Sign) (p : Parsed) → AreNamed signs → parsed limit signs ≡ Ok p → IsWritten Inputs p.game
game_written limit signs p n e =
    let w = said_is_saying limit signs p e in
    record { phrase = (game_is limit signs p e).phrase; words = (read_words signs w.decls w.script p.game w.read n).written }
