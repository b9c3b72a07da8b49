-- A text that is read as these steps. This profile's own.
use Rattle.std.specs.Prelude.{◌≡◌, ℕ, List, Ok}
use Rattle.cv_lex.specs.Lexis.{Token, tokens_of}
use Rattle.cv_syntax_trees.specs.Tree.{Tree}
use Rattle.cv_parse_tables.specs.terminals.ScriptSigns.{script_signs}
use Rattle.cv_script.specs.reader.Scripts.{script_of}

-- behind these names, in a pool with so many nodes and this limit, the text is a script of these steps
pub record ComesBack (limit live from : ℕ) (names : List (List ℕ)) (text : List ℕ) (steps : List Tree) : Type 0 where
  pub tokens : List Token
  pub lexed : tokens_of text ≡ Ok tokens
  pub read : script_of limit live from (script_signs names tokens).signs ≡ Ok steps
