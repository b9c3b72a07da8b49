-- What the rows of a table print, as signs: one for each token of the text. This profile's own.
use Rattle.std.specs.Prelude.{◌≡◌, ℕ, zero, suc, ◌+◌, max, Bool, true, false, ◌==◌, if◌then◌else◌, List, [], ◌∷◌, ◌++◌, length, map, slice_index_or}
use Rattle.cv_syntax_trees.specs.declared.head.Head.TheVariants as head
use Rattle.cv_syntax_trees.specs.Tree.{Tree, Node}
use Rattle.cv_parse_notation.specs.declared.script.ScriptWord.{ScriptWord}
use Rattle.cv_parse_notation.specs.declared.sign.Mark.TheVariants as mark
use Rattle.cv_parse_notation.specs.declared.sign.Sign.{Sign}
use Rattle.cv_parse_notation.specs.declared.sign.Sign.TheVariants as token
use Rattle.cv_parse_tables.specs.declared.piece.Outer.{Outer}
use Rattle.cv_parse_tables.specs.declared.piece.Outer.TheVariants as outer
use Rattle.cv_parse_tables.specs.declared.piece.Piece.{Piece}
use Rattle.cv_parse_tables.specs.declared.piece.Piece.TheVariants as piece
use Rattle.cv_parse_tables.specs.Table.{Table}
use Rattle.cv_print_tables.specs.Layout.{Layout, layout}
use Rattle.cv_print_tables.specs.Prints.{chain_items, next_belongs, node_items, takes}
use Rattle.cv_print_bytes.specs.terminals.Levels.{term_levels, terms_levels}
use Rattle.cv_print_bytes.specs.terminals.Signs.{name_sign, term_signs, terms_signs}

-- the word of scripts that the text of a name is, and the number of a word's text
pub record Words : Type 0 where
  pub script : ℕ → ScriptWord
  pub number : ScriptWord → ℕ

-- a word's number is that of a text which is this word
abbrev pub AreWords : Words → Type 0
AreWords words = (w : ScriptWord) → words.script (words.number w) ≡ w

-- in a script each identifier tells which word it is
abbrev pub spoken : Words → Sign → Sign
spoken words (token.Word x w) = token.Word x (words.script x)
spoken words s = s

-- signs, how many levels they need, and the trees behind
pub record Shown : Type 0 where
  pub signs : List Sign
  pub levels : ℕ
  pub rest : List Tree

abbrev pub Shows : Type 0
Shows = List Tree → Shown

abbrev pub shown : List Sign → ℕ → List Tree → Shown
shown signs levels ts = record { signs = signs; levels = levels; rest = ts }

abbrev pub plain : List Sign → Shows
plain signs ts = shown signs 0 ts

-- what is shown of the next tree
abbrev pub one : (Tree → Shown) → Shows
one f [] = plain [] []
one f (t ∷ ts) = shown (f t).signs (f t).levels ts

abbrev pub followed : Shown → Shows → Shown
followed x q = shown (x.signs ++ (q x.rest).signs) (max x.levels (q x.rest).levels) (q x.rest).rest

-- n bounds how often
abbrev pub repeated : (List Tree → Bool) → Shows → ℕ → Shows
repeated goes_on p zero ts = plain [] ts
repeated goes_on p (suc n) ts = if goes_on ts then followed (p ts) (repeated goes_on p n) else plain [] ts

abbrev pub name_shown : Words → Tree → Shown
name_shown words (Node (head.Name x) a b) = plain (spoken words (name_sign x) ∷ []) []
name_shown words t = plain [] []

abbrev pub number_shown : Tree → Shown
number_shown (Node (head.Number v) a b) = plain (token.Number v ∷ []) []
number_shown t = plain [] []

-- phrases of files, and how many levels they need
abbrev pub outer_signs : Outer → Tree → List Sign
outer_signs outer.Terms t = terms_signs [] t
outer_signs outer.InnerSubscript t = token.Mark mark.OpenSquare ∷ (terms_signs [] t ++ token.Mark mark.CloseSquare ∷ [])
outer_signs p t = term_signs t

abbrev pub outer_levels : Outer → Tree → ℕ
outer_levels outer.Term t = suc (term_levels t)
outer_levels outer.Terms t = suc (terms_levels t)
outer_levels outer.InnerTerm t = suc (suc (term_levels t))
outer_levels outer.InnerSubscript t = suc (suc (terms_levels t))
outer_levels outer.Cell t = suc (term_levels t)
outer_levels outer.InnerCell t = suc (suc (term_levels t))

abbrev pub outer_shown : Words → Outer → Tree → Shown
outer_shown words p t = shown (map (spoken words) (outer_signs p t)) (outer_levels p t) []

abbrev pub one_down : Shown → Shown
one_down x = shown x.signs (suc x.levels) x.rest

-- it opens a level
abbrev pub opening : Shown → Shown
opening x = shown x.signs (max 1 x.levels) x.rest

module _ (words : Words) (below : ℕ → Tree → Shown) where
  -- the first of so many rows to which the next tree belongs
  abbrev pub first_of : (ℕ → Layout) → (ℕ → Shows) → ℕ → ℕ → Shows
  first_of rows row r zero ts = plain [] ts
  first_of rows row r (suc n) ts = if next_belongs (rows r) ts then row r ts else first_of rows row (r + 1) n ts

  -- a piece, where the rows that it speaks of are laid out and shown so
  abbrev pub piece_shown : (ℕ → Layout) → (ℕ → Shows) → Piece → Shows
  piece_shown rows row (piece.Sign m) ts = plain (token.Mark m ∷ []) ts
  piece_shown rows row (piece.ScriptWord w) ts = plain (token.Word (words.number w) w ∷ []) ts
  piece_shown rows row piece.Blank ts = plain [] ts
  piece_shown rows row (piece.Note r) ts = plain [] ts
  piece_shown rows row (piece.Word r) ts = one (name_shown words) ts
  piece_shown rows row piece.Number ts = one number_shown ts
  piece_shown rows row (piece.Phrase p) ts = one (outer_shown words p) ts
  piece_shown rows row (piece.Deeper r) ts = one (λ t. one_down (below r t)) ts
  piece_shown rows row (piece.May near r) ts = if next_belongs (rows r) ts then row r ts else plain [] ts
  piece_shown rows row (piece.Many near r) ts = repeated (next_belongs (rows r)) (row r) (length ts) ts
  piece_shown rows row (piece.Either r s) ts = if next_belongs (rows r) ts then row r ts else row s ts
  piece_shown rows row (piece.OneOf r n) ts = first_of rows row r n ts
  piece_shown rows row (piece.Chain r) ts = one (λ t. row r (chain_items t)) ts
  piece_shown rows row (piece.Over h r) ts = one (λ t. row r (node_items (takes (rows r)) t)) ts
  piece_shown rows row (piece.Level r) ts = opening (row r ts)

  -- pieces one behind another
  abbrev pub pieces_shown : (ℕ → Layout) → (ℕ → Shows) → List Piece → Shows
  pieces_shown rows row [] ts = plain [] ts
  pieces_shown rows row (p ∷ ps) ts = followed (piece_shown rows row p ts) (pieces_shown rows row ps)

  abbrev pub which : Bool → Shows → Shows → Shows
  which true p q = p
  which false p q = q

  -- the row of the number, of so many
  abbrev pub row_shown : Table → ℕ → ℕ → Shows
  row_shown table zero r ts = plain [] ts
  row_shown table (suc n) r ts = which (r == n) (pieces_shown (layout table n) (row_shown table n) (slice_index_or table n [])) (row_shown table n r) ts

-- the signs of the text of a tree by a row, where so many levels are printed
unfoldable pub tree_shown : Words → Table → ℕ → ℕ → Tree → Shown
tree_shown words table zero r t = plain [] []
tree_shown words table (suc n) r t = row_shown words (tree_shown words table n) table (length table) r (t ∷ [])

abbrev pub row_signs : Words → Table → ℕ → ℕ → Tree → List Sign
row_signs words table n r t = (tree_shown words table n r t).signs

abbrev pub row_levels : Words → Table → ℕ → ℕ → Tree → ℕ
row_levels words table n r t = (tree_shown words table n r t).levels
