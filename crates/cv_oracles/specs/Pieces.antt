-- What is written for a token of an oracle file.
use Rattle.std.specs.Prelude.{if◌then◌else◌, ℕ, List, [], ◌∷◌, codes, map}
use Rattle.cv_lex.specs.declared.TokenKind.{TokenKind}
use Rattle.cv_lex.specs.declared.TokenKind.TheVariants as kind
use Rattle.cv_lex.specs.Lexis.{Token}
use Rattle.cv_lex.specs.View.{token_at}
use Rattle.cv_parse_tables.specs.terminals.Braces.{is_end}
use Rattle.cv_oracles.specs.declared.form.Form.{Form}
use Rattle.cv_oracles.specs.declared.form.Form.TheVariants as form
use Rattle.cv_oracles.specs.declared.words.Piece.{Piece}
use Rattle.cv_oracles.specs.declared.words.Piece.TheVariants.{Own, Oracle, The}
use Rattle.cv_oracles.specs.declared.words.Word.{Word}
use Rattle.cv_oracles.specs.declared.words.Word.TheVariants.{In, Out, New, Let, Yield, Channel, Open, Close, Comma, Semicolon, Colon, Dot, Equal, Bang, Never}

-- the words and symbols; the last one stands in no file
abbrev pub text_of : Word → List ℕ
text_of In = codes "in"
text_of Out = codes "out"
text_of New = codes "new"
text_of Let = codes "let"
text_of Yield = codes "yield"
text_of Channel = codes "channel"
text_of Open = codes "("
text_of Close = codes ")"
text_of Comma = codes ","
text_of Semicolon = codes ";"
text_of Colon = codes ":"
text_of Dot = codes "."
text_of Equal = codes "="
text_of Bang = codes "!"
text_of Never = codes ":="

abbrev pub kind_of : Word → TokenKind
kind_of In = kind.Ident
kind_of Out = kind.Ident
kind_of New = kind.Ident
kind_of Let = kind.Ident
kind_of Yield = kind.Ident
kind_of Channel = kind.Ident
kind_of w = kind.Symbol

-- what is written for a token, piece by piece
abbrev pub pieces : Form → List Piece
pieces form.Itself = Own ∷ []
pieces form.Refused = The Never ∷ []
pieces form.Nothing = []
pieces form.Bang = The Bang ∷ []
pieces form.Receives = The In ∷ The Open ∷ Own ∷ The Comma ∷ []
pieces form.Begins = The Close ∷ The Semicolon ∷ []
pieces form.Yields = The Yield ∷ []
pieces form.Sends = The Out ∷ The Open ∷ Oracle ∷ The Comma ∷ []
pieces form.SendsNothing = The Out ∷ The Open ∷ Oracle ∷ The Comma ∷ The Open ∷ The Close ∷ The Close ∷ []
pieces form.Draws = The New ∷ Own ∷ The Colon ∷ []
pieces form.Binds = The Let ∷ Own ∷ []
pieces form.Equals = The Equal ∷ []
pieces form.Into = The In ∷ []
pieces form.Ends = The Close ∷ The Close ∷ []

-- Each token that is written has in place of its offset the number of the token that it is written for.

abbrev pub word_for : Word → (number : ℕ) → Token
word_for w k = record { kind = kind_of w; text = text_of w; offset = k }

abbrev pub numbered : Token → (number : ℕ) → Token
numbered t k = if is_end t.kind then word_for Never k else (record { kind = t.kind; text = t.text; offset = k })

-- the token with the first number, written for that with the second
abbrev pub copy_for : List Token → (source number : ℕ) → Token
copy_for ts j k = numbered (token_at ts j) k

-- a piece for the token with this number, in the definition of an oracle
abbrev pub piece_for : List Token → (oracle number : ℕ) → Piece → Token
piece_for ts oracle k Own = copy_for ts k k
piece_for ts oracle k Oracle = copy_for ts oracle k
piece_for ts oracle k (The w) = word_for w k

abbrev pub written_for : List Token → (oracle number : ℕ) → Form → List Token
written_for ts oracle k f = map (piece_for ts oracle k) (pieces f)
