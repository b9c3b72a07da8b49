-- Maps of tapes, and tests that look at listed cells alone. This profile's own.
use Rattle.std.specs.Prelude.{◌≡◌, ℕ, Bool, List}
use Rattle.cv_meaning.specs.Tapes.{Cell, Tape, cells_of}
use Rattle.cv_meaning_chances.specs.Tests.{IsWithin}
use Rattle.cv_meaning_runs.specs.Agreement.{AgreeAt}

-- the map takes the tapes within the first list to tapes within the second, one to one: those that it
-- takes to tapes that agree at the cells of the second list agree at the cells of the first
pub record IsInjection (cs ds : List (Cell × ℕ)) (f : Tape → Tape) : Type 0 where
  pub within : (t : Tape) → IsWithin cs t → IsWithin ds (f t)
  pub one_to_one : (t u : Tape) → IsWithin cs t → IsWithin cs u → AgreeAt (cells_of ds) (f t) (f u) → AgreeAt (cells_of cs) t u

-- on a tape within the list the test depends on the listed cells alone
abbrev pub LooksOnlyAt : List (Cell × ℕ) → (Tape → Bool) → Type 0
LooksOnlyAt cs p = (t u : Tape) → IsWithin cs t → AgreeAt (cells_of cs) t u → p t ≡ p u
