-- What is printed for the rows of a table.
use Rattle.std.specs.Prelude.{ℕ, zero, suc, ◌+◌, Bool, true, false, ◌==◌, List, [], ◌∷◌, codes, slice_index_or}
use Rattle.cv_syntax_trees.specs.declared.head.Head.{Head}
use Rattle.cv_parse_tables.specs.spelling.Spelling.{spelling}
use Rattle.cv_parse_tables.specs.spelling.ScriptSpelling.{word_spelling}
use Rattle.cv_parse_tables.specs.declared.piece.Outer.{Outer}
use Rattle.cv_parse_tables.specs.declared.piece.Piece.{Piece}
use Rattle.cv_parse_tables.specs.declared.piece.Piece.TheVariants as piece
use Rattle.cv_parse_tables.specs.Table.{Table}

-- what a row prints: a text of its own, and texts of trees
pub data Layout : Type 0 where
  text : List ℕ → Layout
  name number : Layout
  outer : Outer → Layout
  deeper : ℕ → Layout
  never : Layout
  both either : Layout → Layout → Layout
  may many level chained : Layout → Layout
  over : Head → Layout → Layout

-- the first of so many rows
abbrev pub one_of : (ℕ → Layout) → ℕ → ℕ → Layout
one_of row r zero = never
one_of row r (suc n) = either (row r) (one_of row (r + 1) n)

-- a piece, where the rows that it speaks of are laid out so
abbrev pub piece_layout : (ℕ → Layout) → Piece → Layout
piece_layout row (piece.Sign m) = text (spelling m)
piece_layout row (piece.ScriptWord w) = text (word_spelling w)
piece_layout row piece.Blank = text (codes " ")
piece_layout row (piece.Note r) = text []
piece_layout row (piece.Word r) = name
piece_layout row piece.Number = number
piece_layout row (piece.Phrase p) = outer p
piece_layout row (piece.Deeper r) = deeper r
piece_layout row (piece.May near r) = may (row r)
piece_layout row (piece.Many near r) = many (row r)
piece_layout row (piece.Either r s) = either (row r) (row s)
piece_layout row (piece.OneOf r n) = one_of row r n
piece_layout row (piece.Chain r) = chained (row r)
piece_layout row (piece.Over h r) = over h (row r)
piece_layout row (piece.Level r) = level (row r)

-- the pieces that take one tree
abbrev pub takes_one : Piece → Bool
takes_one (piece.Word r) = true
takes_one piece.Number = true
takes_one (piece.Phrase p) = true
takes_one (piece.Deeper r) = true
takes_one (piece.Chain r) = true
takes_one (piece.Over h r) = true
takes_one p = false

-- the pieces that print one of other rows, or none
abbrev pub chooses : Piece → Bool
chooses (piece.May near r) = true
chooses (piece.Either r s) = true
chooses (piece.OneOf r n) = true
chooses p = false

-- pieces one behind another
abbrev pub row_layout : (ℕ → Layout) → List Piece → Layout
row_layout row [] = text []
row_layout row (p ∷ ps) = both (piece_layout row p) (row_layout row ps)

abbrev pub which : Bool → Layout → Layout → Layout
which true f g = f
which false f g = g

-- the row of the number, where only so many rows are looked at: those before it are what it speaks of
abbrev pub layout : Table → ℕ → ℕ → Layout
layout table zero r = never
layout table (suc n) r = which (r == n) (row_layout (layout table n) (slice_index_or table n [])) (layout table n r)
