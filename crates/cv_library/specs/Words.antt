-- Tokens that libraries and uses are told by.
use Rattle.std.specs.Prelude.{Bool, true, false, not, ◌&&◌, ◌||◌, ℕ, List, codes, is_some}
use Rattle.std.specs.Str.{bytes_eq}
use Rattle.cv_lex.specs.declared.TokenKind.{TokenKind}
use Rattle.cv_lex.specs.declared.TokenKind.TheVariants.{Ident}
use Rattle.cv_parse_tables.specs.spelling.Spelling.{mark_of_text}

-- a reserved word or a symbol
abbrev pub is_reserved : List ℕ → Bool
is_reserved text = is_some (mark_of_text text) || bytes_eq text (codes "find")

abbrev pub is_identifier : TokenKind → Bool
is_identifier Ident = true
is_identifier kind = false

-- an identifier that isn't reserved
abbrev pub is_id : TokenKind → List ℕ → Bool
is_id kind text = is_identifier kind && not (is_reserved text)
