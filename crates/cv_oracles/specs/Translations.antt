-- The file for which an oracle file stands.
use Rattle.std.specs.Prelude.{Bool, not, ◌&&◌, ◌||◌, ◌==◌, if◌then◌else◌, ℕ, zero, suc, ◌+◌, ◌-◌, min, List, [], ◌∷◌, ◌++◌, codes, drop, length, map}
use Rattle.std.specs.Str.{bytes_eq}
use Rattle.cv_lex.specs.Lexis.{Token, end_token}
use Rattle.cv_lex.specs.View.{token_at}
use Rattle.cv_library.specs.Libraries.{is_among}
use Rattle.cv_parse_tables.specs.terminals.Braces.{is_end, open_behind}
use Rattle.cv_oracles.specs.declared.reading.Reading.{Reading}
use Rattle.cv_oracles.specs.declared.region.Region.{Region}
use Rattle.cv_oracles.specs.declared.region.Region.TheVariants.{Declarations, Block}
use Rattle.cv_oracles.specs.declared.words.Word.{Word}
use Rattle.cv_oracles.specs.declared.words.Word.TheVariants.{Channel, Comma, Dot, Never}
use Rattle.cv_oracles.specs.Pieces.{copy_for, word_for, written_for}
use Rattle.cv_oracles.specs.Readings.{at_start, behind, defines}
use Rattle.cv_oracles.specs.Regions.{is_barred}
use Rattle.cv_oracles.specs.Steps.{step}

-- where the parts of a file begin

abbrev pub ends_declarations : List ℕ → Bool
ends_declarations text = bytes_eq text (codes "proof") || bytes_eq text (codes "process")

-- the number of the first word `proof` or `process`, or of the end token
unfoldable pub declarations_end_from : (at : ℕ) → List Token → ℕ
declarations_end_from k [] = k
declarations_end_from k (t ∷ ts) = if is_end t.kind then k else (if ends_declarations t.text then k else declarations_end_from (k + 1) ts)

abbrev pub declarations_end : List Token → ℕ
declarations_end ts = declarations_end_from 0 ts

abbrev pub is_process : (depth : ℕ) → List ℕ → Bool
is_process depth text = (depth == 0) && bytes_eq text (codes "process")

-- the number of the token behind the first word `process` outside braces, or of the end token
unfoldable pub process_from : (depth at : ℕ) → List Token → ℕ
process_from depth k [] = k
process_from depth k (t ∷ ts) = if is_end t.kind then k else (if is_process depth t.text then k + 1 else process_from (open_behind depth t.text) (k + 1) ts)

abbrev pub process_at : List Token → (from : ℕ) → ℕ
process_at ts from = process_from 0 from (drop from ts)

-- declarations and proof blocks: so many tokens from one on, as they are, where they may stand there

abbrev pub kept_at : Region → List Token → (at : ℕ) → Token
kept_at r ts k = if is_barred r (token_at ts k).text then word_for Never k else copy_for ts k k

unfoldable pub kept_from : Region → List Token → (at count : ℕ) → List Token
kept_from r ts k zero = []
kept_from r ts k (suc n) = kept_at r ts k ∷ kept_from r ts (k + 1) n

-- processes: what is written for so many tokens from one on

abbrev pub behind_at : List Token → Reading → (at : ℕ) → Reading
behind_at ts r k = behind r (token_at ts k).kind (token_at ts k).text (token_at ts (k + 1)).text k

abbrev pub written_at : List Token → Reading → (at : ℕ) → List Token
written_at ts r k = written_for ts r.oracle k (step r.mode (token_at ts k).kind (token_at ts k).text (token_at ts (k + 1)).text).0

unfoldable pub written_from : List Token → Reading → (at count : ℕ) → List Token
written_from ts r k zero = []
written_from ts r k (suc n) = written_at ts r k ++ written_from ts (behind_at ts r k) (k + 1) n

-- oracles: the tokens, by their numbers, at which each appears first

abbrev pub text_at : List Token → (at : ℕ) → List ℕ
text_at ts k = (token_at ts k).text

abbrev pub is_new_oracle : List Token → Reading → (before : List ℕ) → (at : ℕ) → Bool
is_new_oracle ts r before k = defines r (token_at ts k).kind (text_at ts k) && not (is_among (map (text_at ts) before) (text_at ts k))

abbrev pub with_oracle : List Token → Reading → (before : List ℕ) → (at : ℕ) → List ℕ
with_oracle ts r before k = if is_new_oracle ts r before k then before ++ k ∷ [] else before

unfoldable pub oracles_from : List Token → Reading → (at count : ℕ) → (before : List ℕ) → List ℕ
oracles_from ts r k zero before = before
oracles_from ts r k (suc n) before = oracles_from ts (behind_at ts r k) (k + 1) n (with_oracle ts r before k)

-- `channel O, P.`, written before the token with this number
abbrev pub channels : List Token → (before : ℕ) → Word → List ℕ → List Token
channels ts before word [] = word_for Dot before ∷ []
channels ts before word (k ∷ ks) = word_for word before ∷ copy_for ts k k ∷ channels ts before Comma ks

abbrev pub declaration : List Token → (before : ℕ) → List ℕ → List Token
declaration ts before [] = []
declaration ts before (k ∷ ks) = channels ts before Channel (k ∷ ks)

-- the parts of a file whose declarations end and whose process begins there, and whose end token has this number
abbrev pub parts : List Token → (end begin last : ℕ) → List Token
parts ts end begin last =
    kept_from Declarations ts (min end 1) (end - min end 1)
    ++ declaration ts end (oracles_from ts (at_start begin) begin (last - begin) [])
    ++ kept_from Block ts end (begin - end)
    ++ written_from ts (at_start begin) begin (last - begin)
    ++ end_token last ∷ []

-- the file for which an oracle file stands: its declarations without the word before them, its oracles as channels, its proof block, and its
-- process; each token has in place of its offset the number of the token that it is written for
abbrev pub file_for : List Token → List Token
file_for ts = parts ts (declarations_end ts) (process_at ts (declarations_end ts)) (length ts - 1)

-- an oracle file begins so
abbrev pub is_oracle_file : List Token → Bool
is_oracle_file ts = bytes_eq (text_at ts 0) (codes "oracles")

-- the tokens of the file that a source stands for
abbrev pub read_as : List Token → List Token
read_as ts = if is_oracle_file ts then file_for ts else ts

abbrev pub number_by : (numbered : Bool) → List Token → (at : ℕ) → ℕ
number_by numbered file k = if numbered then (token_at file k).offset else k

-- the number, in the source, of a token of that file
abbrev pub number_in : List Token → (at : ℕ) → ℕ
number_in ts k = number_by (is_oracle_file ts) (read_as ts) k
