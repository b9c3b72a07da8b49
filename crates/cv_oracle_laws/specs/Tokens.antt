-- Tokens that phrases of oracle files are made of.
use Rattle.std.specs.Prelude.{◌≡◌, Bool, false, ◌||◌, ℕ, suc, ◌<◌, List, [], ◌∷◌, ◌++◌, codes}
use Rattle.std.specs.List.{AllByRecursion}
use Rattle.std.specs.Str.{bytes_eq}
use Rattle.cv_lex.specs.declared.TokenKind.TheVariants.{Ident, Symbol}
use Rattle.cv_lex.specs.Lexis.{Token}
use Rattle.cv_parse_tables.specs.terminals.Signs.{first_text}
use Rattle.cv_parse_grammar.specs.depth.Files.{most_levels}
use Rattle.cv_oracles.specs.declared.region.Region.TheVariants.{Process}
use Rattle.cv_oracles.specs.Regions.{is_barred}

-- a token without its place
abbrev pub plain : Token → Token
plain t = record { kind = t.kind; text = t.text; offset = 0 }

abbrev pub word : List ℕ → Token
word text = record { kind = Ident; text = text; offset = 0 }

abbrev pub symbol : List ℕ → Token
symbol text = record { kind = Symbol; text = text; offset = 0 }

-- this word or symbol
abbrev pub Is : Token → List ℕ → Type 0
Is t text = t.text ≡ text

-- the tokens don't begin with it
abbrev pub Lack : List Token → List ℕ → Type 0
Lack ts text = bytes_eq (first_text ts) text ≡ false

-- a token that is in the file what it is in the oracle file: none of the words that processes of one of the two alone have
abbrev pub IsKept : Token → Type 0
IsKept t = is_barred Process t.text ≡ false

-- such tokens, up to this word or symbol: a term, a condition, a list of variables
abbrev pub AreUpTo : (end : List ℕ) → List Token → Type 0
AreUpTo end ts = AllByRecursion (λ t. IsKept t × (bytes_eq t.text end ≡ false)) ts

abbrev pub is_parenthesis : List ℕ → Bool
is_parenthesis text = bytes_eq text (codes "(") || bytes_eq text (codes ")")

-- such tokens that close so many open parentheses and match otherwise; at most 200 are open at once
pub data AreMatched : ℕ → List Token → Type 0 where
  none : AreMatched 0 []
  another : {n : ℕ} {t : Token} {ts : List Token} → IsKept t → is_parenthesis t.text ≡ false → AreMatched n ts → AreMatched n (t ∷ ts)
  opens : {n : ℕ} {t : Token} {ts : List Token} → n < most_levels → Is t (codes "(") → AreMatched (suc n) ts → AreMatched n (t ∷ ts)
  closes : {n : ℕ} {t : Token} {ts : List Token} → Is t (codes ")") → AreMatched n ts → AreMatched (suc n) (t ∷ ts)

abbrev pub is_brace : List ℕ → Bool
is_brace text = bytes_eq text (codes "{") || bytes_eq text (codes "}")

-- any tokens with matched braces
pub data AreBraced : List Token → Type 0 where
  none : AreBraced []
  another : {t : Token} {ts : List Token} → is_brace t.text ≡ false → AreBraced ts → AreBraced (t ∷ ts)
  pair : {opener : Token} (inner : List Token) (closer : Token) (ts : List Token) → Is opener (codes "{") → AreBraced inner → Is closer (codes "}") → AreBraced ts → AreBraced (opener ∷ inner ++ closer ∷ ts)
