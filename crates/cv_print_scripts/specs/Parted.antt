-- A table whose texts are told apart as tokens: behind an identifier or a number comes no letter, digit or '_', and a mark
-- that could go on stands before a blank. This profile's own.
use Rattle.std.specs.Prelude.{ℕ, zero, suc, Bool, true, false, ◌&&◌, ◌||◌, not, List, [], ◌∷◌, length, slice_index_or}
use Rattle.cv_lex.specs.Lexis.{is_inner}
use Rattle.cv_parse_notation.specs.declared.script.ScriptWord.{ScriptWord}
use Rattle.cv_parse_notation.specs.declared.script.ScriptWord.TheVariants.{Plain}
use Rattle.cv_parse_notation.specs.declared.sign.Mark.{Mark}
use Rattle.cv_parse_notation.specs.declared.sign.Mark.TheVariants as mark
use Rattle.cv_parse_tables.specs.declared.piece.Outer.TheVariants.{InnerSubscript}
use Rattle.cv_parse_tables.specs.declared.piece.Piece.{Piece}
use Rattle.cv_parse_tables.specs.declared.piece.Piece.TheVariants as piece
use Rattle.cv_parse_tables.specs.Table.{Table}
use Rattle.cv_print_tables.specs.Layout.{Layout, layout, piece_layout, row_layout}
use Rattle.cv_print_tables.specs.Layout as lay

-- no letter, digit or '_' is first
abbrev pub is_apart : List ℕ → Bool
is_apart [] = true
is_apart (b ∷ bs) = not (is_inner b)

-- a letter, a digit or '_' is last, or nothing
abbrev pub is_open : List ℕ → Bool
is_open [] = true
is_open (b ∷ []) = is_inner b
is_open (b ∷ (c ∷ bs)) = is_open (c ∷ bs)

-- in front of a text that begins with no letter, digit or '_', neither does this one
abbrev pub begins : Layout → Bool
begins (lay.text s) = is_apart s
begins (lay.outer InnerSubscript) = true
begins lay.never = true
begins (lay.both f g) = begins f
begins (lay.either f g) = begins f && begins g
begins (lay.may f) = begins f
begins (lay.many f) = begins f
begins (lay.level f) = begins f
begins (lay.chained f) = begins f
begins (lay.over h f) = begins f
begins f = false

-- it needs a text behind it that begins with no letter, digit or '_'
abbrev pub needs : Layout → Bool
needs (lay.text s) = is_open s
needs (lay.both f (lay.text [])) = needs f
needs (lay.both f g) = needs g
needs (lay.either f g) = needs f || needs g
needs (lay.level f) = needs f
needs f = true

abbrev pub follows : Layout → Layout → Bool
follows f g = not (needs f) || begins g

-- its text tells it, and no other token begins with it
abbrev pub is_sure : Mark → Bool
is_sure mark.Collision = false
is_sure mark.Equal = false
is_sure mark.Bar = false
is_sure mark.Colon = false
is_sure mark.OpenAtoms = false
is_sure m = true

-- before a blank it is told
abbrev pub is_sure_alone : Mark → Bool
is_sure_alone mark.Equal = true
is_sure_alone mark.Bar = true
is_sure_alone mark.Colon = true
is_sure_alone m = false

abbrev pub has_text : ScriptWord → Bool
has_text Plain = false
has_text w = true

abbrev pub blank_is_next : List Piece → Bool
blank_is_next (piece.Blank ∷ ps) = true
blank_is_next ps = false

-- a piece, where the rows that it speaks of are laid out so
abbrev pub piece_is_parted : (ℕ → Layout) → Piece → Bool
piece_is_parted row (piece.Sign m) = is_sure m
piece_is_parted row (piece.ScriptWord w) = has_text w
piece_is_parted row (piece.Many near r) = follows (row r) (row r)
piece_is_parted row p = true

abbrev pub is_told : (ℕ → Layout) → Piece → List Piece → Bool
is_told row (piece.Sign m) ps = is_sure m || (is_sure_alone m && blank_is_next ps)
is_told row p ps = piece_is_parted row p

-- pieces one behind another
abbrev pub pieces_are_parted : (ℕ → Layout) → List Piece → Bool
pieces_are_parted row [] = true
pieces_are_parted row (p ∷ ps) = is_told row p ps && (follows (piece_layout row p) (row_layout row ps) && pieces_are_parted row ps)

-- so many rows
abbrev pub rows_are_parted : Table → ℕ → Bool
rows_are_parted table zero = true
rows_are_parted table (suc n) = pieces_are_parted (layout table n) (slice_index_or table n []) && rows_are_parted table n

abbrev pub is_parted : Table → Bool
is_parted table = rows_are_parted table (length table)
