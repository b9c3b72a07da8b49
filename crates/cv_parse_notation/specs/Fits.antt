-- Whether the next token always tells how a phrase goes on.
use Rattle.std.specs.Prelude.{Bool, true, false, ◌&&◌, ◌||◌, not, List, [], ◌∷◌}
use Rattle.cv_syntax_trees.specs.Tree.{Tree}
use Rattle.cv_parse_notation.specs.declared.script.ScriptWord.{ScriptWord}
use Rattle.cv_parse_notation.specs.declared.sign.Mark.{Mark}
use Rattle.cv_parse_notation.specs.Marks.{every_mark}
use Rattle.cv_parse_notation.specs.ScriptWords.{every_word}
use Rattle.cv_parse_notation.specs.Form.{Form, both, may, many, either, made, level, deeper}
use Rattle.cv_parse_notation.specs.Spells.{Kind, AWord, ANumber, Zero, AFind, AnUnnamed, AMark, starts, may_vanish, is_steady}

-- behind a phrase of the form a token of the kind could belong to it
abbrev pub goes_on : {R σ A : Type 0} → (h t : σ → Kind → Bool) → Form R σ A → Kind → Bool
goes_on h t (both f g) k = goes_on h t g k || (may_vanish g && goes_on h t f k)
goes_on h t (may near f) k = (not near && starts h f k) || goes_on h t f k
goes_on h t (many near f) k = (not near && starts h f k) || goes_on h t f k
goes_on h t (either f g) k = goes_on h t f k || goes_on h t g k
goes_on h t (made v f) k = goes_on h t f k
goes_on h t (level f) k = goes_on h t f k
goes_on h t (deeper s) k = t s k
goes_on h t _ k = false

abbrev pub all_marks : List Mark → (Kind → Bool) → Bool
all_marks [] p = true
all_marks (m ∷ ms) p = p (AMark m) && all_marks ms p

abbrev pub all_words : List ScriptWord → (Kind → Bool) → Bool
all_words [] p = true
all_words (w ∷ ws) p = p (AWord w) && all_words ws p

abbrev pub all_kinds : (Kind → Bool) → Bool
all_kinds p = all_words every_word p && (p ANumber && (p Zero && (p AFind && (p AnUnnamed && all_marks every_mark p))))

-- no kind of token is in both
abbrev pub apart : (Kind → Bool) → (Kind → Bool) → Bool
apart p q = all_kinds (λ k. not (p k && q k))

abbrev pub within : (Kind → Bool) → (Kind → Bool) → Bool
within p q = apart p (λ k. not (q k))

abbrev pub fits : {R σ A : Type 0} → (h t : σ → Kind → Bool) → Form R σ A → Bool
fits h t (both f g) = fits h t f && (fits h t g && apart (starts h g) (goes_on h t f))
fits h t (may near f) = fits h t f && not (may_vanish f)
fits h t (many near f) = fits h t f && (not (may_vanish f) && apart (starts h f) (goes_on h t f))
fits h t (either f g) = fits h t f && (fits h t g && not (may_vanish f))
fits h t (made v f) = fits h t f
fits h t (level f) = fits h t f
fits h t _ = true

-- what a table of rules must meet, sort by sort
abbrev pub fitting : {R σ : Type 0} → (h t : σ → Kind → Bool) → (σ → Form R σ Tree) → σ → Bool
fitting h t rule s = fits h t (rule s) && (within (starts h (rule s)) (h s) && (within (goes_on h t (rule s)) (t s) && (not (may_vanish (rule s)) && is_steady (rule s))))
