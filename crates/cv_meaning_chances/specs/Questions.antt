-- Tests that ask one cell after another. This profile's own.
use Rattle.std.specs.Prelude.{◌≡◌, ℕ, ◌<◌, Bool, not, List, filter, Contains}
use Rattle.cv_meaning.specs.Tapes.{Cell, Tape, same_cell}

-- says whether it holds, or asks a cell and goes on by its value
pub data Questions : Type 0 where
  Says : (holds : Bool) → Questions
  Asks : (cell : Cell) → (next : ℕ → Questions) → Questions

-- what it says on a tape
abbrev pub answer : Questions → Tape → Bool
answer (Says holds) t = holds
answer (Asks c next) t = answer (next (t c)) t

-- the list without the cell
abbrev pub without : Cell → List (Cell × ℕ) → List (Cell × ℕ)
without c cs = filter (λ (d : Cell × ℕ). not (same_cell d.0 c)) cs

-- both ask listed cells of the same sizes in turn, no cell twice, and then say the same
abbrev pub AskAlike : List (Cell × ℕ) → List (Cell × ℕ) → Questions → Questions → Type 0
AskAlike cs ds (Says a) (Says b) = a ≡ b
AskAlike cs ds (Asks c f) (Asks d g) =
    (size : ℕ) × Contains cs (c, size) × Contains ds (d, size)
    × ((v : ℕ) → v < size → AskAlike (without c cs) (without d ds) (f v) (g v))
AskAlike cs ds _ _ = ⊥
