-- What the table of drawn names is. This profile's own.
use Rattle.std.specs.Prelude.{◌≡◌, ℕ, ◌<◌, List, All, length, map}
use Rattle.cv_meaning.specs.contexts.Inlined.{Drawn}
use Rattle.cv_inline.specs.Draws.{Draw, drawn_by, drawn_texts}
use Rattle.cv_inline_draws.specs.names.Texts.{texts_at, with_texts}

abbrev pub bases_of : List Draw → List ℕ
bases_of ds = map (λ (d : Draw). d.base) ds

-- The table has, for these draws and these finds, numbers of names and these labels in their order. After the draws, the texts
-- of those names are the drawn ones, where the names that were taken have these numbers before; and of those texts the names
-- have got the ones that they lacked, and nothing else.
pub record IsDrawnFor (before after : List (List ℕ)) (taken : List ℕ) (draws : List Draw) (finds : List (ℕ × ℕ)) (labels : List ℕ) (d : Drawn) : Type 0 where
  pub names : List ℕ
  pub live : All (λ x. x < length after) names
  pub texts : texts_at after names ≡ drawn_texts (texts_at before taken) (texts_at before (bases_of draws))
  pub added : after ≡ with_texts before (drawn_texts (texts_at before taken) (texts_at before (bases_of draws)))
  pub table : d ≡ drawn_by draws names finds labels
