-- The signs of a script's tokens: those of a file, and in each identifier the word of a script that it is.
use Rattle.std.specs.Prelude.{ℕ, ◌-◌, List, [], ◌∷◌, drop, take}
use Rattle.cv_lex.specs.Lexis.{Token}
use Rattle.cv_parse_notation.specs.declared.sign.Sign.{Sign}
use Rattle.cv_parse_notation.specs.declared.sign.Sign.TheVariants as sign
use Rattle.cv_parse_tables.specs.spelling.ScriptSpelling.{word_of_text}
use Rattle.cv_parse_tables.specs.terminals.Signs.{Signed, no_counts, signs_from}

-- the tokens from one on, before another
abbrev pub between : (from to : ℕ) → List Token → List Token
between from to ts = take (to - from) (drop from ts)

-- an identifier tells which word of a script it is
abbrev pub with_word : (text : List ℕ) → Sign → Sign
with_word text (sign.Word x w) = sign.Word x (word_of_text text)
with_word text s = s

abbrev pub with_words : List Token → List Sign → List Sign
with_words [] signs = []
with_words (t ∷ ts) [] = []
with_words (t ∷ ts) (s ∷ signs) = with_word t.text s ∷ with_words ts signs

-- the signs of a script's tokens, where these names stand before them, and the names behind them
abbrev pub script_signs : List (List ℕ) → List Token → Signed
script_signs names ts = record { signs = with_words ts (signs_from names no_counts ts).signs; names = (signs_from names no_counts ts).names }
