-- The tapes that a count goes over. This profile's own.
use Rattle.std.specs.Prelude.{ℕ, List, [], ◌∷◌, flat_map}
use Rattle.cv_meaning.specs.Tapes.{Cell, Tape, written}
use Rattle.cv_meaning.specs.Candidates.{below}

-- the tapes that have values below their sizes in these cells, and elsewhere the values of a tape
unfoldable pub tapes_of : List (Cell × ℕ) → Tape → List Tape
tapes_of [] t = t ∷ []
tapes_of (c ∷ cs) t = flat_map (λ v. tapes_of cs (written t c.0 v)) (below c.1)
