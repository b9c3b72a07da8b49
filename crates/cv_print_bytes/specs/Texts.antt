-- The signs of a text, and what is read from it, by names that are known before. This profile's own.
use Rattle.std.specs.Prelude.{◌≡◌, ℕ, List, [], Ok}
use Rattle.cv_lex.specs.Lexis.{Token, tokens_of}
use Rattle.cv_parse_tables.specs.terminals.Signs.{no_counts, signs_from}
use Rattle.cv_parse_notation.specs.declared.sign.Sign.{Sign}
use Rattle.cv_parse_notation.specs.Reads.{found, read_sort}
use Rattle.cv_parse_grammar.specs.Names.{Uses}
use Rattle.cv_parse_grammar.specs.Phrases.{Sort}
use Rattle.cv_parse_grammar.specs.Rules.{heads, rule}
use Rattle.cv_syntax_trees.specs.Tree.{Tree}

-- a text has tokens, which have these signs; no name is new
pub record HasSigns (names : List (List ℕ)) (text : List ℕ) (signs : List Sign) : Type 0 where
  pub tokens : List Token
  pub lexed : tokens_of text ≡ Ok tokens
  pub signed : signs_from names no_counts tokens ≡ record { signs = signs; names = names }

-- a text has signs, and these are read as the tree with its uses of names, to the end; no name is new
pub record IsReadAs (names : List (List ℕ)) (text : List ℕ) (n : ℕ) (sort : Sort) (t : Tree) (uses : Uses) : Type 0 where
  pub signs : List Sign
  pub has : HasSigns names text signs
  pub read : read_sort heads rule n sort signs ≡ found t uses []
