-- The signs of tokens, and the names in them.
use Rattle.std.specs.Prelude.{◌≡◌, ℕ, suc, ◌+◌, ◌<◌, ◌≤◌, Bool, ◌&&◌, if◌then◌else◌, List, [], ◌∷◌, ◌++◌, Option, Some, None, codes, length, slice_get}
use Rattle.std.specs.Str.{bytes_eq}
use Rattle.std.specs.Fmt.{decimal}
use Rattle.cv_lex.specs.declared.TokenKind.{TokenKind}
use Rattle.cv_lex.specs.declared.TokenKind.TheVariants as kind
use Rattle.cv_lex.specs.Lexis.{Token}
use Rattle.cv_lex.specs.View.{token_at}
use Rattle.cv_parse_notation.specs.declared.script.ScriptWord.TheVariants.{Plain}
use Rattle.cv_parse_notation.specs.declared.sign.Mark.{Mark}
use Rattle.cv_parse_notation.specs.declared.sign.Sign.{Sign}
use Rattle.cv_parse_notation.specs.declared.sign.Sign.TheVariants as sign
use Rattle.cv_parse_tables.specs.declared.terminals.pass.Counts.{Counts}
use Rattle.cv_parse_tables.specs.terminals.Braces.{file_tokens}
use Rattle.cv_parse_tables.specs.terminals.Openings.{with_openings}
use Rattle.cv_parse_tables.specs.spelling.Spelling.{spelling, mark_of_text}

-- the place of a text among names, or their number where it isn't there
abbrev pub place_of : List (List ℕ) → List ℕ → ℕ
place_of [] text = 0
place_of (name ∷ names) text = if bytes_eq name text then 0 else suc (place_of names text)

-- the names with a text, which is put at their end where it isn't there
abbrev pub with_name : List (List ℕ) → List ℕ → List (List ℕ)
with_name [] text = text ∷ []
with_name (name ∷ names) text = if bytes_eq name text then name ∷ names else name ∷ with_name names text

-- no words are counted yet
abbrev pub no_counts : Counts
no_counts = record { finds = 0; unnamed = 0 }

-- one more `find` word
abbrev pub one_find : Counts → Counts
one_find counts = record { finds = suc counts.finds; unnamed = counts.unnamed }

-- one more collision without a name
abbrev pub one_unnamed : Counts → Counts
one_unnamed counts = record { finds = counts.finds; unnamed = suc counts.unnamed }

-- the signs of one token, and the names and counts behind it
pub record Step : Type 0 where
  pub signs : List Sign
  pub names : List (List ℕ)
  pub counts : Counts

-- a word that is no mark: `find`, or a name
abbrev pub word_step : List (List ℕ) → Counts → List ℕ → Step
word_step names counts text =
    if bytes_eq text (codes "find")
    then (record { signs = sign.Find (suc counts.finds) ∷ []; names = names; counts = one_find counts })
    else (record { signs = sign.Word (place_of names text) Plain ∷ []; names = with_name names text; counts = counts })

-- an identifier or a symbol, by the mark that is written so
abbrev pub text_step : List (List ℕ) → Counts → List ℕ → Option Mark → Step
text_step names counts text (Some m) = record { signs = sign.Mark m ∷ []; names = names; counts = counts }
text_step names counts text None = word_step names counts text

-- a token; the end token has no sign
abbrev pub token_step : List (List ℕ) → Counts → TokenKind → List ℕ → Step
token_step names counts kind.Ident text = text_step names counts text (mark_of_text text)
token_step names counts kind.Symbol text = text_step names counts text (mark_of_text text)
token_step names counts (kind.Number value) text = record { signs = sign.Number value ∷ []; names = names; counts = counts }
token_step names counts kind.End text = record { signs = []; names = names; counts = counts }

-- the word `collision` before the word `new`: a collision without a name
abbrev pub is_unnamed : (text next : List ℕ) → Bool
is_unnamed text next = bytes_eq text (codes "collision") && bytes_eq next (codes "new")

-- the name of the k-th collision without one
abbrev pub unnamed_name : ℕ → List ℕ
unnamed_name k = codes "collision_" ++ decimal k

-- the next collision without a name
abbrev pub unnamed_step : List (List ℕ) → Counts → Step
unnamed_step names counts = record {
  signs = sign.Unnamed (place_of names (unnamed_name (suc counts.unnamed))) ∷ [];
  names = with_name names (unnamed_name (suc counts.unnamed));
  counts = one_unnamed counts;
}

-- a token before the next one's text
abbrev pub step_before : List (List ℕ) → Counts → TokenKind → (text next : List ℕ) → Step
step_before names counts kind text next = if is_unnamed text next then unnamed_step names counts else token_step names counts kind text

-- the text of the first token, or none
abbrev pub first_text : List Token → List ℕ
first_text [] = []
first_text (t ∷ ts) = t.text

-- the signs of tokens, and all names behind them
pub record Signed : Type 0 where
  pub signs : List Sign
  pub names : List (List ℕ)

-- signs, and behind them others with their names
abbrev pub join : List Sign → Signed → Signed
join front rest = record { signs = front ++ rest.signs; names = rest.names }

-- a step, and what comes behind it
abbrev pub go_on : (List (List ℕ) → Counts → Signed) → Step → Signed
go_on rest s = join s.signs (rest s.names s.counts)

-- the signs of tokens, where these names and so many counted words stand before them
unfoldable pub signs_from : List (List ℕ) → Counts → List Token → Signed
signs_from names counts [] = record { signs = []; names = names }
signs_from names counts (t ∷ ts) = go_on (λ n c. signs_from n c ts) (step_before names counts t.kind t.text (first_text ts))

-- the signs of tokens as they stand; the name `bool` is number 0
abbrev pub signs_in : List Token → Signed
signs_in ts = signs_from (codes "bool" ∷ []) no_counts ts

-- the parentheses that open right sides of queries are told from all others
abbrev pub with_right_sides : Signed → Signed
with_right_sides s = record { signs = with_openings s.signs; names = s.names }

-- the signs of a file's tokens
abbrev pub signs_of : List Token → Signed
signs_of ts = with_right_sides (signs_in (file_tokens ts))

-- A sign says what its token says; a number stands for the text at its place among the names. No name is a word of a script.
abbrev pub Tells : List (List ℕ) → Token → Sign → Type 0
Tells names t (sign.Word n w) = (slice_get names n ≡ Some t.text) × (mark_of_text t.text ≡ None) × (w ≡ Plain)
Tells names t (sign.Number value) = t.kind ≡ kind.Number value
Tells names t (sign.Find n) = t.text ≡ codes "find"
Tells names t (sign.Unnamed n) = (t.text ≡ codes "collision") × ((k : ℕ) × (1 ≤ k) × (slice_get names n ≡ Some (unnamed_name k)))
Tells names t (sign.Mark m) = t.text ≡ spelling m

-- each token but the end token has a sign that says the same, in the same order
abbrev pub TellInOrder : List (List ℕ) → List Token → List Sign → Type 0
TellInOrder names ts signs = (k : ℕ) → k + 1 < length ts → (s : Sign) × (slice_get signs k ≡ Some s) × Tells names (token_at ts k) s

-- the number of a name, where a sign has one, is below this bound
abbrev pub NumberBelow : ℕ → Sign → Type 0
NumberBelow bound (sign.Word n w) = n < bound
NumberBelow bound (sign.Unnamed n) = n < bound
NumberBelow bound (sign.Number value) = Unit {0}
NumberBelow bound (sign.Find n) = Unit {0}
NumberBelow bound (sign.Mark m) = Unit {0}
