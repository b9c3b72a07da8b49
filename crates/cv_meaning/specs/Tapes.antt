-- Tapes, and counts of them.
-- The random choices of a run are those of Blanchet, TDSC 2008, section 2. That a run reads them from
-- a finite tape, and that a probability is a count of tapes, is this profile's own.
use Rattle.std.specs.Prelude.{ℕ, zero, suc, ◌+◌, ◌*◌, Bool, true, false, ◌&&◌, ◌==◌, if◌then◌else◌, List, [], ◌∷◌, map}
use Rattle.std.specs.List.{list_any}

-- a restriction or the choice of a find, by name or label and index tuple; a test; a key, and what
-- the calls of a side draw and pick; a coin of the adversary
pub data Cell : Type 0 where
  New_at Find_at : (name : ℕ) → (tuple : List ℕ) → Cell
  Test_at : (tuple : List ℕ) → Cell
  Key_at : (key : List ℕ) → Cell
  Made_at Picked_at : (name : ℕ) → (tuple : List ℕ) → (site : ℕ) → Cell
  Coin : (number : ℕ) → Cell

abbrev pub same_tuple : List ℕ → List ℕ → Bool
same_tuple [] [] = true
same_tuple (x ∷ xs) (y ∷ ys) = (x == y) && same_tuple xs ys
same_tuple _ _ = false

abbrev pub same_cell : Cell → Cell → Bool
same_cell (New_at x u) (New_at y v) = (x == y) && same_tuple u v
same_cell (Find_at x u) (Find_at y v) = (x == y) && same_tuple u v
same_cell (Test_at u) (Test_at v) = same_tuple u v
same_cell (Key_at u) (Key_at v) = same_tuple u v
same_cell (Made_at x u m) (Made_at y v n) = (x == y) && ((m == n) && same_tuple u v)
same_cell (Picked_at x u m) (Picked_at y v n) = (x == y) && ((m == n) && same_tuple u v)
same_cell (Coin j) (Coin k) = j == k
same_cell _ _ = false

-- the cells of a list that gives each its size
abbrev pub cells_of : List (Cell × ℕ) → List Cell
cells_of cs = map (λ (c : Cell × ℕ). c.0) cs

abbrev pub is_in : List (Cell × ℕ) → Cell → Bool
is_in cs c = list_any (λ (d : Cell × ℕ). same_cell d.0 c) cs

-- a value for each cell
abbrev pub Tape : Type 0
Tape = Cell → ℕ

-- the tape with another value in a cell
unfoldable pub written : Tape → Cell → ℕ → Tape
written t c v d = if same_cell d c then v else t d

-- the sum of f v for each v below a number
unfoldable pub sum_below : ℕ → (ℕ → ℕ) → ℕ
sum_below zero f = 0
sum_below (suc n) f = sum_below n f + f n

-- on how many tapes of these cells, each with its size, the test holds
unfoldable pub count : List (Cell × ℕ) → (Tape → Bool) → Tape → ℕ
count [] holds t = if holds t then 1 else 0
count (c ∷ cs) holds t = sum_below c.1 (λ v. count cs holds (written t c.0 v))

-- how many tapes of these cells there are
unfoldable pub total : List (Cell × ℕ) → ℕ
total [] = 1
total (c ∷ cs) = c.1 * total cs

-- the tape of zeros
abbrev pub blank : Tape
blank c = 0
