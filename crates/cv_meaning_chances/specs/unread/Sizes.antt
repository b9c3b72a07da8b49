-- The size that a list of cells gives a cell. This profile's own.
use Rattle.std.specs.Prelude.{◌≡◌, ◌⊎◌, ℕ, Bool, if◌then◌else◌, List, [], ◌∷◌, Option, Some, None}
use Rattle.cv_meaning.specs.Tapes.{Cell, Tape, same_cell}
use Rattle.cv_meaning_chances.specs.Tests.{Ignores}

-- that of the first cell that is it
abbrev pub size_in : List (Cell × ℕ) → Cell → Option ℕ
size_in [] d = None
size_in (c ∷ cs) d = if same_cell c.0 d then Some c.1 else size_in cs d

-- both lists give each cell the same size, or none, but for cells that the test ignores
abbrev pub GiveSizesFor : (Tape → Bool) → List (Cell × ℕ) → List (Cell × ℕ) → Type 0
GiveSizesFor p cs ds = (d : Cell) → (size_in cs d ≡ size_in ds d) ⊎ Ignores p d
