-- How the tokens of a file are read: between braces, which stand around its proof block alone, nothing but braces.
use Rattle.std.specs.Prelude.{ℕ, zero, suc, ◌-◌, Bool, true, false, ◌||◌, if◌then◌else◌, List, [], ◌∷◌, codes}
use Rattle.std.specs.Str.{bytes_eq}
use Rattle.cv_lex.specs.declared.TokenKind.{TokenKind}
use Rattle.cv_lex.specs.declared.TokenKind.TheVariants as kind
use Rattle.cv_lex.specs.Lexis.{Token}

abbrev pub opens : List ℕ → Bool
opens text = bytes_eq text (codes "{")

abbrev pub closes : List ℕ → Bool
closes text = bytes_eq text (codes "}")

abbrev pub is_end : TokenKind → Bool
is_end kind.End = true
is_end k = false

-- a brace, or the end
abbrev pub is_read : TokenKind → List ℕ → Bool
is_read k text = opens text || (closes text || is_end k)

abbrev pub semicolon : (offset : ℕ) → Token
semicolon offset = record { kind = kind.Symbol; text = codes ";"; offset = offset }

-- between braces any other token counts as a semicolon
abbrev pub read_between : Token → Token
read_between t = if is_read t.kind t.text then t else semicolon t.offset

-- a token as it is read, where so many braces are open
abbrev pub read_at : (depth : ℕ) → Token → Token
read_at zero t = t
read_at (suc depth) t = read_between t

-- how many braces are open behind a text
abbrev pub open_behind : (depth : ℕ) → List ℕ → ℕ
open_behind depth text = if opens text then suc depth else (if closes text then depth - 1 else depth)

-- tokens as they are read, where so many braces are open before them
unfoldable pub read_from : (depth : ℕ) → List Token → List Token
read_from depth [] = []
read_from depth (t ∷ ts) = read_at depth t ∷ read_from (open_behind depth t.text) ts

-- the tokens of a file as they are read
abbrev pub file_tokens : List Token → List Token
file_tokens ts = read_from 0 ts

-- the tokens outside braces, up to each brace that opens some and from behind the one that closes them
unfoldable pub outside_from : (depth : ℕ) → List Token → List Token
outside_from depth [] = []
outside_from zero (t ∷ ts) = t ∷ outside_from (open_behind zero t.text) ts
outside_from (suc depth) (t ∷ ts) = outside_from (open_behind (suc depth) t.text) ts

abbrev pub outside : List Token → List Token
outside ts = outside_from 0 ts
