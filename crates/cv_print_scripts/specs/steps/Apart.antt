-- A table that tells its trees and its texts apart: the head of the next tree tells how they are printed, and the next
-- token how they are read. This profile's own.
use Rattle.std.specs.Prelude.{ℕ, zero, suc, ◌+◌, Bool, true, false, ◌==◌, ◌&&◌, ◌||◌, not, if◌then◌else◌, List, [], ◌∷◌, ◌++◌, length, slice_index_or}
use Rattle.cv_syntax_trees.specs.declared.head.Head.{Head}
use Rattle.cv_syntax_trees.specs.declared.head.Head.TheVariants as head
use Rattle.cv_syntax_trees.specs.Head.{same_head}
use Rattle.cv_parse_notation.specs.declared.sign.Mark.TheVariants as mark
use Rattle.cv_parse_notation.specs.Form.{Form, both, may, many, either, made, level, deeper}
use Rattle.cv_parse_notation.specs.Fits.{within}
use Rattle.cv_parse_notation.specs.Spells.{Kind, AMark, may_vanish, starts}
use Rattle.cv_parse_grammar.specs.declared.role.Role.{Role}
use Rattle.cv_parse_tables.specs.declared.piece.Outer.TheVariants as outer
use Rattle.cv_parse_tables.specs.declared.piece.Piece.{Piece}
use Rattle.cv_parse_tables.specs.declared.piece.Piece.TheVariants as piece
use Rattle.cv_parse_tables.specs.Table.{Nowhere, Row, Table, TableSort, TreesForm, form, piece_form, row_form, table_heads}
use Rattle.cv_parse_tables.specs.Table as table
use Rattle.cv_print_tables.specs.Layout.{Layout, layout, piece_layout, row_layout}
use Rattle.cv_print_tables.specs.Layout as lay
use Rattle.cv_print_tables.specs.Prints.{is_name, is_number, is_term, is_text, takes}

-- heads

-- what the first tree of a row can be
pub data First : Type 0 where
  AName ANumber ATerm Any : First
  AHead : Head → First

-- no name of a text is `bool`
abbrev pub is_first : First → Head → Bool
is_first AName h = is_name h && not (same_head (head.Name 0) h)
is_first ANumber h = is_number h
is_first ATerm h = is_term h
is_first Any h = true
is_first (AHead k) h = same_head k h

abbrev pub one_is_first : List First → Head → Bool
one_is_first [] h = false
one_is_first (p ∷ ps) h = is_first p h || one_is_first ps h

-- no tree so begins a layout's
abbrev pub avoids_head : First → Head → Bool
avoids_head AName k = not (is_name k) || same_head (head.Name 0) k
avoids_head ANumber k = not (is_number k)
avoids_head ATerm k = not (is_term k)
avoids_head Any k = false
avoids_head (AHead h) k = not (same_head k h)

abbrev pub avoids : First → Layout → Bool
avoids p (lay.text s) = true
avoids p lay.never = true
avoids p (lay.both f g) = if is_text f then avoids p g else avoids p f
avoids p (lay.either f g) = avoids p f && avoids p g
avoids p (lay.may f) = avoids p f
avoids p (lay.many f) = avoids p f
avoids p (lay.level f) = avoids p f
avoids p (lay.over k f) = avoids_head p k
avoids p f = false

abbrev pub all_avoid : List First → Layout → Bool
all_avoid [] f = true
all_avoid (p ∷ ps) f = avoids p f && all_avoid ps f

abbrev pub all_avoid_each : List First → List Layout → Bool
all_avoid_each ps [] = true
all_avoid_each ps (f ∷ fs) = all_avoid ps f && all_avoid_each ps fs

-- a layout may take no tree
abbrev pub is_bare : Layout → Bool
is_bare (lay.text s) = true
is_bare (lay.both f g) = is_bare f && is_bare g
is_bare (lay.either f g) = is_bare f || is_bare g
is_bare (lay.may f) = true
is_bare (lay.many f) = true
is_bare (lay.level f) = is_bare f
is_bare f = false

abbrev pub firsts : Layout → List First
firsts (lay.text s) = []
firsts lay.name = AName ∷ []
firsts lay.number = ANumber ∷ []
firsts (lay.outer outer.Terms) = Any ∷ []
firsts (lay.outer outer.InnerSubscript) = Any ∷ []
firsts (lay.outer p) = ATerm ∷ []
firsts lay.never = []
firsts (lay.both f g) = if is_bare f then firsts f ++ firsts g else firsts f
firsts (lay.either f g) = firsts f ++ firsts g
firsts (lay.may f) = firsts f
firsts (lay.many f) = firsts f
firsts (lay.level f) = firsts f
firsts (lay.over h f) = AHead h ∷ []
firsts f = Any ∷ []

-- it takes a tree, and that tells by its head that it belongs to it
abbrev pub is_firm : Layout → Bool
is_firm (lay.text s) = false
is_firm (lay.both f g) = if is_text f then is_firm g else is_firm f
is_firm (lay.either f g) = is_firm f && is_firm g
is_firm (lay.may f) = false
is_firm (lay.many f) = false
is_firm (lay.level f) = is_firm f
is_firm (lay.chained f) = false
is_firm f = true

-- it takes as many trees as are counted
abbrev pub is_counted : Layout → Bool
is_counted (lay.both f g) = is_counted f && is_counted g
is_counted (lay.either f g) = (is_counted f && (takes f == 1)) && (is_counted g && (takes g == 1))
is_counted (lay.may f) = false
is_counted (lay.many f) = false
is_counted (lay.level f) = is_counted f && (takes f == 1)
is_counted f = true

-- with which trees behind its own it would go on
abbrev pub ends : Layout → List Layout
ends (lay.both f g) = if is_bare g then ends f ++ ends g else ends g
ends (lay.either f g) = ends f ++ ends g
ends (lay.may f) = f ∷ ends f
ends (lay.many f) = f ∷ ends f
ends (lay.level f) = ends f
ends f = []

-- one tree alone
abbrev pub takes_one : Layout → Bool
takes_one f = is_counted f && (takes f == 1)

-- one tree alone, told by its head
abbrev pub is_whole : Layout → Bool
is_whole f = is_firm f && takes_one f

-- tokens

-- a phrase one level down may be a term
abbrev pub is_somewhere : TableSort → Bool
is_somewhere Nowhere = false
is_somewhere s = true

-- a term may be last
abbrev pub trails : {A : Type 0} → Form Role TableSort A → Bool
trails (both f g) = trails g || (may_vanish g && trails f)
trails (may near f) = trails f
trails (many near f) = trails f
trails (either f g) = trails f || trails g
trails (made v f) = trails f
trails (level f) = trails f
trails (deeper s) = is_somewhere s
trails f = false

-- no parenthesis and no square bracket is first
abbrev pub is_closed : (Kind → Bool) → Bool
is_closed p = not (p (AMark mark.Open)) && not (p (AMark mark.OpenSquare))

-- rows

-- a row of one tree
abbrev pub is_single : Table → ℕ → Bool
is_single t r = takes_one (layout t (length t) r)

-- a row that may stand one level down: one tree alone, and a token that it is looked for by
abbrev pub is_deep : Table → ℕ → Bool
is_deep t r = is_whole (layout t (length t) r) && (not (may_vanish (form t (length t) r)) && within (starts (table_heads t) (form t (length t) r)) (table_heads t (Row r)))

module _ (of_table : Table) (bound : ℕ) where
  abbrev pub row_form_at : ℕ → TreesForm
  row_form_at r = form of_table bound r

  abbrev pub row_layout_at : ℕ → Layout
  row_layout_at r = layout of_table bound r

  abbrev pub begins : TreesForm → Kind → Bool
  begins f k = starts (table_heads of_table) f k

  -- the first phrase, where it can begin, and else the second
  abbrev pub choice_tells : TreesForm → TreesForm → Layout → Layout → Bool
  choice_tells f g k l = (is_firm k && is_firm l) && (all_avoid (firsts l) k && (not (may_vanish g) && within (begins g) (λ j. not (begins f j))))

  abbrev pub one_tells : ℕ → ℕ → Bool
  one_tells r zero = true
  one_tells r (suc n) = choice_tells (row_form_at r) (table.one_of row_form_at (r + 1) n) (row_layout_at r) (lay.one_of row_layout_at (r + 1) n) && one_tells (r + 1) n

  abbrev pub piece_tells : Piece → Bool
  piece_tells (piece.Deeper r) = is_deep of_table r
  piece_tells (piece.May near r) = not near && is_firm (row_layout_at r)
  piece_tells (piece.Many near r) = not near && (is_firm (row_layout_at r) && (all_avoid_each (firsts (row_layout_at r)) (ends (row_layout_at r)) && (not (trails (row_form_at r)) || is_closed (begins (row_form_at r)))))
  piece_tells (piece.Either r s) = choice_tells (row_form_at r) (row_form_at s) (row_layout_at r) (row_layout_at s)
  piece_tells (piece.OneOf r n) = one_tells r n
  piece_tells (piece.Over h r) = is_counted (row_layout_at r)
  piece_tells p = true

  abbrev pub follows : TreesForm → TreesForm → Layout → Layout → Bool
  follows f g k l = all_avoid_each (firsts l) (ends k) && (not (trails f) || is_closed (begins g))

  abbrev pub pieces_tell : List Piece → Bool
  pieces_tell [] = true
  pieces_tell (p ∷ ps) = piece_tells p && (follows (piece_form row_form_at p) (row_form row_form_at ps) (piece_layout row_layout_at p) (row_layout row_layout_at ps) && pieces_tell ps)

-- so many rows tell
abbrev pub rows_tell : Table → ℕ → Bool
rows_tell t zero = true
rows_tell t (suc n) = pieces_tell t n (slice_index_or t n []) && rows_tell t n

abbrev pub tells_apart : Table → Bool
tells_apart t = rows_tell t (length t)
