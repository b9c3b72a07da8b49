-- The word of a script of a text and the text of a word.
use Rattle.std.proofs.Common.{◌≡◌, ◌≢◌, ℕ, List, [], ◌∷◌, Option, Some, None, Bool, true, false, refl, cond, find}
use Rattle.std.proofs.lemmas.Slice.Eq.{bytes_eq-Decides}
use Rattle.cv_parse_notation.specs.declared.script.ScriptWord.{ScriptWord}
use Rattle.cv_parse_notation.specs.declared.script.ScriptWord.TheVariants as script
use Rattle.cv_parse_tables.specs.spelling.ScriptSpelling.{word_spelling, words, is_word_spelled, word_or_plain, word_of_text, word_with}

-- each word is found by its text
pub found : (w : ScriptWord) → word_of_text (word_spelling w) ≡ w
unfolding word_with
found script.Plain = refl
found script.Rename = refl
found script.To = refl
found script.Rewrite = refl
found script.By = refl
found script.Prune = refl
found script.Pick = refl
found script.Merge = refl
found script.Split = refl
found script.Unlet = refl
found script.Unnew = refl
found script.Move = refl
found script.ArrayRename = refl
found script.Codef = refl
found script.Add = refl
found script.Drop = refl
found script.From = refl
found script.Birthday = refl
found script.At = refl
found script.Guess = refl
found script.Fresh = refl
found script.Crypto = refl
found script.Success = refl
found script.Simplify = refl
found script.Events = refl
found script.Never = refl
found script.With = refl
found script.Above = refl
found script.Cell = refl
found script.Holds = refl
found script.Distinct = refl
found script.Pair = refl
found script.Fact = refl
found script.Here = refl
found script.Of = refl
found script.Site = refl
found script.Refl = refl
found script.Sym = refl
found script.Trans = refl
found script.Cong = refl
found script.Mp = refl
found script.And = refl
found script.Left = refl
found script.Right = refl
found script.Contra = refl
found script.Exfalso = refl
found script.Given = refl
found script.Again = refl
found script.OtherFact = refl
found script.OtherHere = refl
found script.Same = refl
found script.Late = refl
found script.Alt = refl

-- what is found among words passes the test
passes_at : (b : Bool) (text : List ℕ) (k w : ScriptWord) (rest : Option ScriptWord) → is_word_spelled text k ≡ b → (rest ≡ Some w → is_word_spelled text w ≡ true) → cond b (Some k) rest ≡ Some w → is_word_spelled text w ≡ true
passes_at true text k w rest is later e = let same : k ≡ w = cc in cc
passes_at false text k w rest is later e = later e

passes : (text : List ℕ) (ws : List ScriptWord) (w : ScriptWord) → find (is_word_spelled text) ws ≡ Some w → is_word_spelled text w ≡ true
passes text [] w e = absurd (cc)
passes text (k ∷ ws) w e = passes_at (is_word_spelled text k) text k w (find (is_word_spelled text) ws) refl (passes text ws w) e

-- what is no plain word was found
found_at : (o : Option ScriptWord) (w : ScriptWord) → word_or_plain o ≡ w → w ≢ script.Plain → o ≡ Some w
found_at None w e other = absurd (let plain : w ≡ script.Plain = cc in other plain)
found_at (Some v) w e other = let same : v ≡ w = e in cc

-- what is found has the text
pub only : (text : List ℕ) (w : ScriptWord) → word_of_text text ≡ w → w ≢ script.Plain → word_spelling w ≡ text
unfolding word_with
only text w e other = (bytes_eq-Decides (word_spelling w) text).0 (passes text words w (found_at (find (is_word_spelled text) words) w e other))
