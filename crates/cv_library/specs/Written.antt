-- Lists of tokens that are written one behind another.
use Rattle.std.specs.Prelude.{◌≡◌, ℕ, List, [], ◌∷◌, ◌++◌, length, Option, Some, None}
use Rattle.cv_lex.specs.Lexis.{Token, end_token}
use Rattle.cv_library.specs.Libraries.{Definition}

-- before the end token stand these tokens more
abbrev pub Adds : (old more new : List Token) → Type 0
Adds old more new = (front : List Token) (end : ℕ) → old ≡ front ++ end_token end ∷ [] → new ≡ (front ++ more) ++ end_token end ∷ []

-- how many tokens the body of a definition has
abbrev pub body_len : Option Definition → ℕ
body_len None = 0
body_len (Some d) = length d.body
