-- The signs of a text in a script, by the names behind it, and what they spell. This profile's own.
use Rattle.std.specs.Prelude.{◌≡◌, ◌≤◌, ℕ, List, [], ◌++◌, Ok, map}
use Rattle.cv_lex.specs.Lexis.{Token, tokens_of}
use Rattle.cv_parse_notation.specs.declared.sign.Sign.{Sign}
use Rattle.cv_parse_notation.specs.Spells.{IsSort}
use Rattle.cv_parse_grammar.specs.Names.{Uses}
use Rattle.cv_parse_tables.specs.Table.{Row, Table, table_heads, table_rule}
use Rattle.cv_parse_tables.specs.terminals.ScriptSigns.{script_signs}
use Rattle.cv_parse_tables.specs.spelling.ScriptSpelling.{words, word_of_text, word_spelling}
use Rattle.cv_parse_tables.specs.terminals.Signs.{place_of}
use Rattle.cv_print.specs.Terms.{name_text}
use Rattle.cv_print_scripts.specs.steps.Shown.{Words, row_levels}
use Rattle.cv_syntax_trees.specs.Tree.{Tree}

-- names, and behind them the words of scripts
abbrev pub with_all_words : List (List ℕ) → List (List ℕ)
with_all_words names = names ++ map word_spelling words

-- a name is the word with its text, and a word has the number of its text
abbrev pub words_among : List (List ℕ) → Words
words_among names = record { script = λ x. word_of_text (name_text (with_all_words names) x); number = λ w. place_of (with_all_words names) (word_spelling w) }

-- in a script with these names a text has tokens, which have these signs by the names behind them
pub record HasSigns (names : List (List ℕ)) (text : List ℕ) (signs : Words → List Sign) : Type 0 where
  pub tokens : List Token
  pub lexed : tokens_of text ≡ Ok tokens
  pub signed : (script_signs names tokens).signs ≡ signs (words_among (script_signs names tokens).names)

-- in a script with these names a text has tokens, whose signs spell the tree by a row, to the end, with as many levels as it needs or more
pub record IsReadAs (names : List (List ℕ)) (text : List ℕ) (table : Table) (row : ℕ) (levels : Words → ℕ) (t : Tree) : Type 0 where
  pub tokens : List Token
  pub lexed : tokens_of text ≡ Ok tokens
  pub spelled : (m : ℕ) → levels (words_among (script_signs names tokens).names) ≤ m → (uses : Uses) × IsSort (table_heads table) (table_rule table) m (Row row) (script_signs names tokens).signs t uses []

-- with so many levels, no signs spell two trees by a row, to the end
abbrev pub IsUnambiguous : Table → ℕ → ℕ → Type 0
IsUnambiguous table row m = (ss : List Sign) (s t : Tree) (us vs : Uses) → IsSort (table_heads table) (table_rule table) m (Row row) ss s us [] → IsSort (table_heads table) (table_rule table) m (Row row) ss t vs [] → s ≡ t

-- its text needs so many levels at most
abbrev pub FitsIn : Table → ℕ → ℕ → ℕ → Tree → Type 0
FitsIn table n row m t = (words : Words) → row_levels words table n row t ≤ m
