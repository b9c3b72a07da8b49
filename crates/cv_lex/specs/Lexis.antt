-- The lexis: the tokens of a text, or its first fault.
use Rattle.std.specs.Prelude.{◌≡◌, ℕ, zero, suc, ◌+◌, ◌*◌, ◌-◌, ◌^◌, Bool, true, false, ◌==◌, ◌&&◌, ◌||◌, nat_lt, if◌then◌else◌, max, List, [], ◌∷◌, length, take, drop, fold, Option, Some, None, Result, Ok, Err, codes}
use Rattle.std.specs.List.{prefix_len}
use Rattle.std.specs.Char.{is_ascii_alphabetic, is_ascii_digit}
use Rattle.cv_lex.specs.declared.TokenKind.{TokenKind}
use Rattle.cv_lex.specs.declared.TokenKind.TheVariants.{Ident, Number, Symbol, End}
use Rattle.cv_lex.specs.declared.LexError.{LexError}
use Rattle.cv_lex.specs.declared.LexError.TheVariants.{Char, CommentOpen, NumberWide, OutOfMemory}
use Rattle.cv_lex.specs.declared.scan.Piece.{Piece}
use Rattle.cv_lex.specs.declared.scan.Piece.TheVariants.{Nothing, Between, Lexeme, OpenComment, WideNumber, ForeignByte}

-- a token: its kind, its bytes, and the offset of the first of them
pub record Token : Type 0 where
  pub kind : TokenKind
  pub text : List ℕ
  pub offset : ℕ

-- space, tab, CR and LF
abbrev pub is_blank : ℕ → Bool
is_blank b = (b == 32) || ((b == 9) || ((b == 13) || (b == 10)))

-- a letter, a digit or '_', which stand in an identifier
abbrev pub is_inner : ℕ → Bool
is_inner b = is_ascii_alphabetic b || (is_ascii_digit b || (b == 95))

-- the second list begins with the first
abbrev pub has_front : List ℕ → List ℕ → Bool
has_front [] bs = true
has_front (a ∷ cs) [] = false
has_front (a ∷ cs) (b ∷ bs) = (b == a) && has_front cs bs

-- the symbols
abbrev pub symbols : List (List ℕ)
symbols =
    codes "(" ∷ codes ")" ∷ codes "[" ∷ codes "]" ∷ codes "{" ∷ codes "}" ∷ codes "," ∷ codes ";" ∷ codes ":" ∷ codes "." ∷ codes "|" ∷ codes "!" ∷ codes "@" ∷ codes "'" ∷ codes "="
    ∷ codes "<>" ∷ codes "<=" ∷ codes "=>" ∷ codes "==>" ∷ codes "->" ∷ codes "&&" ∷ codes "||" ∷ codes ":=" ∷ codes "<-" ∷ []

-- the length of the longest of these texts at the front, or 0
abbrev pub longest : List (List ℕ) → List ℕ → ℕ
longest [] bs = 0
longest (s ∷ ss) bs = if has_front s bs then max (length s) (longest ss bs) else longest ss bs

-- the number that a row of digits writes
abbrev pub value_of : List ℕ → ℕ
value_of digits = fold (λ value b. value * 10 + (b - 48)) 0 digits

-- two bytes open a comment, or close one
abbrev pub opens : ℕ → ℕ → Bool
opens a b = (a == 40) && (b == 42)

abbrev pub closes : ℕ → ℕ → Bool
closes a b = (a == 42) && (b == 41)

-- where a comment ends: its first at bytes are read, and in it so many more comments are open
abbrev pub comment_end : (depth at : ℕ) → List ℕ → Option ℕ
comment_end depth at [] = None
comment_end depth at (a ∷ []) = None
comment_end zero at (a ∷ b ∷ bs) =
    if opens a b then comment_end 1 (at + 2) bs else (if closes a b then Some (at + 2) else comment_end zero (at + 1) (b ∷ bs))
comment_end (suc depth) at (a ∷ b ∷ bs) =
    if opens a b then comment_end (suc (suc depth)) (at + 2) bs else (if closes a b then comment_end depth (at + 2) bs else comment_end (suc depth) (at + 1) (b ∷ bs))

-- the text begins with a comment, ended or not
abbrev pub opens_comment : List ℕ → Bool
opens_comment bs = has_front (codes "(*") bs

-- a comment, which has an end or not
abbrev pub a_comment : Option ℕ → Piece
a_comment None = OpenComment
a_comment (Some n) = Between n

-- a number of so many digits
abbrev pub a_number : (digits value : ℕ) → Piece
a_number n value = if nat_lt value (2 ^ 64) then Lexeme (Number value) n else WideNumber

-- a symbol of this length, if there is one
abbrev pub a_symbol : ℕ → Piece
a_symbol zero = ForeignByte
a_symbol (suc n) = Lexeme Symbol (suc n)

-- what stands at the front: nothing more, something between tokens, a token, or a fault; with its length
abbrev pub piece : List ℕ → Piece
piece [] = Nothing
piece (b ∷ bs) =
    if is_blank b then Between 1
    else (if opens_comment (b ∷ bs) then a_comment (comment_end 0 2 (drop 2 (b ∷ bs)))
    else (if is_ascii_alphabetic b then Lexeme Ident (prefix_len is_inner (b ∷ bs))
    else (if is_ascii_digit b then a_number (prefix_len is_ascii_digit (b ∷ bs)) (value_of (take (prefix_len is_ascii_digit (b ∷ bs)) (b ∷ bs)))
    else a_symbol (longest symbols (b ∷ bs)))))

-- the end token
abbrev pub end_token : ℕ → Token
end_token offset = record { kind = End; text = []; offset = offset }

-- From the offset on these bytes have these tokens, or this as their first fault.
pub data Lexed : ℕ → List ℕ → Result (List Token) LexError → Type 0 where
  ends : {k : ℕ} {bs : List ℕ} → piece bs ≡ Nothing → Lexed k bs (Ok (end_token k ∷ []))
  between : {k : ℕ} {bs : List ℕ} {r : Result (List Token) LexError} (n : ℕ) → piece bs ≡ Between n → Lexed (k + n) (drop n bs) r → Lexed k bs r
  token : {k : ℕ} {bs : List ℕ} {ts : List Token} (kind : TokenKind) (n : ℕ) → piece bs ≡ Lexeme kind n → Lexed (k + n) (drop n bs) (Ok ts) → Lexed k bs (Ok (record { kind = kind; text = take n bs; offset = k } ∷ ts))
  later : {k : ℕ} {bs : List ℕ} {e : LexError} (kind : TokenKind) (n : ℕ) → piece bs ≡ Lexeme kind n → Lexed (k + n) (drop n bs) (Err e) → Lexed k bs (Err e)
  unclosed : {k : ℕ} {bs : List ℕ} → piece bs ≡ OpenComment → Lexed k bs (Err (CommentOpen k))
  wide : {k : ℕ} {bs : List ℕ} → piece bs ≡ WideNumber → Lexed k bs (Err (NumberWide k))
  foreign : {k : ℕ} {bs : List ℕ} → piece bs ≡ ForeignByte → Lexed k bs (Err (Char k))

-- a token in front of what follows it
abbrev pub put : Token → Result (List Token) LexError → Result (List Token) LexError
put t (Ok ts) = Ok (t ∷ ts)
put t (Err e) = Err e

-- a piece, and what comes behind it
abbrev pub one : (ℕ → List ℕ → Result (List Token) LexError) → ℕ → List ℕ → Piece → Result (List Token) LexError
one behind k bs Nothing = Ok (end_token k ∷ [])
one behind k bs (Between n) = behind (k + n) (drop n bs)
one behind k bs (Lexeme kind n) = put (record { kind = kind; text = take n bs; offset = k }) (behind (k + n) (drop n bs))
one behind k bs OpenComment = Err (CommentOpen k)
one behind k bs WideNumber = Err (NumberWide k)
one behind k bs ForeignByte = Err (Char k)

-- the same as the relation, piece by piece; n bounds how many
unfoldable pub lexed : (n k : ℕ) → List ℕ → Result (List Token) LexError
lexed zero k bs = Err (Char k)
lexed (suc n) k bs = one (lexed n) k bs (piece bs)

-- the tokens of a text, or its first fault
abbrev pub tokens_of : List ℕ → Result (List Token) LexError
tokens_of bs = lexed (suc (length bs)) 0 bs

-- An error is the text's first fault; running out of memory says nothing of the text.
abbrev pub Fails : LexError → Result (List Token) LexError → Type 0
Fails OutOfMemory r = Unit {0}
Fails (Char k) r = r ≡ Err (Char k)
Fails (CommentOpen k) r = r ≡ Err (CommentOpen k)
Fails (NumberWide k) r = r ≡ Err (NumberWide k)

-- a text is one token of this kind, and a number has the value that it writes
abbrev pub IsToken : TokenKind → List ℕ → Type 0
IsToken kind text = piece text ≡ Lexeme kind (length text)
