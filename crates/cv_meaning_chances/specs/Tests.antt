-- Lists of cells, and what a test reads of a tape. This profile's own.
use Rattle.std.specs.Prelude.{◌≡◌, ℕ, ◌<◌, Bool, false, ◌==◌, ◌&&◌, ◌||◌, ◌⊎◌, List, [], ◌∷◌, map, Contains}
use Rattle.std.specs.List.{AllByRecursion, IsDistinct, list_any}
use Rattle.cv_meaning.specs.Tapes.{Cell, Tape, same_cell, cells_of, is_in, written}

-- no cell is listed twice
abbrev pub HasDistinctCells : List (Cell × ℕ) → Type 0
HasDistinctCells cs = IsDistinct same_cell (cells_of cs)

-- each listed cell has at least one value
abbrev pub HasValues : List (Cell × ℕ) → Type 0
HasValues cs = AllByRecursion (λ (c : Cell × ℕ). 0 < c.1) cs

-- each listed cell holds a value below its size
abbrev pub IsWithin : List (Cell × ℕ) → Tape → Type 0
IsWithin cs t = AllByRecursion (λ (c : Cell × ℕ). t c.0 < c.1) cs

-- what is written into the cell does not change the outcome
abbrev pub Ignores : {A : Type 0} → (Tape → A) → Cell → Type 0
Ignores f c = (t : Tape) (v : ℕ) → f (written t c v) ≡ f t

-- each cell of the first list is in the second, with the same size, or is ignored by the test
abbrev pub IsCoveredFor : (Tape → Bool) → List (Cell × ℕ) → List (Cell × ℕ) → Type 0
IsCoveredFor p cs ds = (c : Cell × ℕ) → Contains cs c → Contains ds c ⊎ Ignores p c.0

-- the cells under other names
abbrev pub renamed : (Cell → Cell) → List (Cell × ℕ) → List (Cell × ℕ)
renamed name cs = map (λ (c : Cell × ℕ). (name c.0, c.1)) cs

-- no two cells get one name
abbrev pub IsOneToOne : (Cell → Cell) → Type 0
IsOneToOne name = (c d : Cell) → name c ≡ name d → c ≡ d

-- whether the cell is one of these and holds the value
abbrev pub hits_one_of : List Cell → Cell → ℕ → Tape → Bool
hits_one_of family c v t = list_any (same_cell c) family && (t c == v)

-- whether two of these cells hold the same value
abbrev pub some_equal : List Cell → Tape → Bool
some_equal [] t = false
some_equal (c ∷ cs) t = list_any (λ d. t c == t d) cs || some_equal cs t

-- the test ignores each cell that isn't listed
abbrev pub IgnoresOthers : (Tape → Bool) → List (Cell × ℕ) → Type 0
IgnoresOthers p cs = (c : Cell) → is_in cs c ≡ false → Ignores p c

-- each listed cell has the size that it has wherever it is listed
abbrev pub HasSizes : (Cell → ℕ) → List (Cell × ℕ) → Type 0
HasSizes size cs = AllByRecursion (λ (c : Cell × ℕ). c.1 ≡ size c.0) cs
