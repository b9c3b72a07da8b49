-- Rows of a table: what they print, and which trees belong to them.
use Rattle.std.proofs.Common.{◌≡◌, ℕ, zero, suc, ◌+◌, ◌-◌, ◌<◌, ◌≤◌, Bool, true, false, List, [], ◌∷◌, ◌++◌, length, drop, refl, ap, ap₂, sym, ◌∙◌, arith, get_or, ◌||◌, eqb, slice_index_or, eqb-true, Option, Some, None, append_assoc, append-nil}
use Rattle.std.proofs.lemmas.Bool.{eqb-false}
use Rattle.std.specs.Prelude.{if◌then◌else◌}
use Rattle.std.specs.Borrow.{Bor}
use Rattle.cv_syntax_trees.specs.declared.head.Head.{Head}
use Rattle.cv_syntax_trees.specs.Tree.{Tree}
use Rattle.cv_parse_tables.specs.declared.piece.Piece.{Piece}
use Rattle.cv_parse_tables.specs.declared.piece.Piece.TheVariants as piece
use Rattle.cv_parse_tables.specs.Table.{Table, rows_of}
use Rattle.cv_parse_tables.proofs.Rows.{drop_at, drop_end}
use Rattle.cv_syntax.proofs.Trees.{tree_of_NoTree}
use Rattle.cv_print_tables.proofs.Lists.{single_one}
use Rattle.cv_print_tables.specs.Layout.{Layout, never, both, either, layout, one_of, piece_layout, row_layout, which}
use Rattle.cv_print_tables.specs.Prints.{is_text, takes, belongs, head_belongs, first_head, next_belongs, Printed, Printer, printed, followed, repeated, prints, prints_in, tree_text, Chooses}
use Rattle.cv_parse_tables.proofs.Readers.{rows_many}

-- the rows of the program's table

-- a row means its pieces, over the rows before it

which_true : (b : Bool) (f g : Layout) → b ≡ true → which b f g ≡ f
which_true true f g h = refl
which_true false f g h = absurd (cc)

which_false : (b : Bool) (f g : Layout) → b ≡ false → which b f g ≡ g
which_false true f g h = absurd (cc)
which_false false f g h = refl

pub layout_row : (table : Table) (n r : ℕ) → r < n → layout table n r ≡ row_layout (layout table r) (slice_index_or table r [])
layout_row table zero r h = absurd (omega arith)
layout_row table (suc n) r h = go (eqb r n) refl (λ i. layout_row table n r i) where
  go : (b : Bool) → eqb r n ≡ b → (r < n → layout table n r ≡ row_layout (layout table r) (slice_index_or table r [])) → layout table (suc n) r ≡ row_layout (layout table r) (slice_index_or table r [])
  go true e f =
      which_true (eqb r n) (row_layout (layout table n) (slice_index_or table n [])) (layout table n r) e
      ∙ ap (λ m. row_layout (layout table m) (slice_index_or table m [])) (sym (eqb-true r n e))
  go false e f =
      let ne = eqb-false r n e in
      which_false (eqb r n) (row_layout (layout table n) (slice_index_or table n [])) (layout table n r) e ∙ f (omega (arith, ne))

pub layout_none : (table : Table) (n r : ℕ) → n ≤ r → layout table n r ≡ never
layout_none table zero r h = refl
layout_none table (suc n) r h = go (eqb r n) refl (layout_none table n r (omega arith)) where
  go : (b : Bool) → eqb r n ≡ b → layout table n r ≡ never → layout table (suc n) r ≡ never
  go true e f = let i = eqb-true r n e in absurd (omega (arith, i))
  go false e f = which_false (eqb r n) (row_layout (layout table n) (slice_index_or table n [])) (layout table n r) e ∙ f

pub row_at : (rows : List (Bor (List Piece))) (r : ℕ) (d : Bor (List Piece)) → r < length rows → (get_or rows r d).now ≡ slice_index_or (rows_of rows) r []
row_at [] r d h = absurd (omega arith)
row_at (x ∷ rows) zero d h = refl
row_at (x ∷ rows) (suc r) d h = row_at rows r d (omega arith)

-- pieces one behind another

pub pieces_next : (row : ℕ → Layout) (ps : List Piece) (k : ℕ) (d : Piece) → k < length ps → row_layout row (drop k ps) ≡ both (piece_layout row (get_or ps k d)) (row_layout row (drop (k + 1) ps))
pieces_next row ps k d h = ap (row_layout row) (drop_at ps k d h)

pub one_of_text : (row : ℕ → Layout) (r n : ℕ) → is_text (one_of row r n) ≡ false
one_of_text row r zero = refl
one_of_text row r (suc n) = refl

pub text_takes : (f : Layout) → is_text f ≡ true → takes f ≡ 0
text_takes (Layout.text s) h = refl
text_takes _ h = absurd (cc)

pub piece_takes : (row : ℕ → Layout) (p : Piece) → is_text (piece_layout row p) ≡ false → takes (piece_layout row p) ≡ 1
piece_takes row (piece.OneOf r zero) h = refl
piece_takes row (piece.OneOf r (suc n)) h = refl
piece_takes row (piece.Sign m) h = absurd (cc)
piece_takes row (piece.ScriptWord w) h = absurd (cc)
piece_takes row piece.Blank h = absurd (cc)
piece_takes row (piece.Note r) h = absurd (cc)
piece_takes row _ h = refl

pub takes_next : (row : ℕ → Layout) (ps : List Piece) (k : ℕ) (d : Piece) → k < length ps → takes (row_layout row (drop k ps)) ≡ takes (piece_layout row (get_or ps k d)) + takes (row_layout row (drop (k + 1) ps))
takes_next row ps k d h = ap takes (pieces_next row ps k d h)

pub takes_end : (row : ℕ → Layout) (ps : List Piece) (k : ℕ) → length ps ≤ k → takes (row_layout row (drop k ps)) ≡ 0
takes_end row ps k h = ap (λ x. takes (row_layout row x)) (drop_end ps k h)

pub row_takes : (table : Table) (n r : ℕ) (count : ℕ) → r < n → count ≡ takes (row_layout (layout table r) (slice_index_or table r [])) → count ≡ takes (layout table n r)
row_takes table n r count h e = e ∙ ap takes (sym (layout_row table n r h))

pub none_takes : (table : Table) (n r : ℕ) → n ≤ r → takes (layout table n r) ≡ 1
none_takes table n r h = ap takes (layout_none table n r h)

-- trees that belong to them

pub if_true : {A : Type 0} (b : Bool) (x y : A) → b ≡ true → (if b then x else y) ≡ x
if_true true x y h = refl
if_true false x y h = absurd (cc)

pub if_false : {A : Type 0} (b : Bool) (x y : A) → b ≡ false → (if b then x else y) ≡ y
if_false true x y h = absurd (cc)
if_false false x y h = refl

pub text_skip : (row : ℕ → Layout) (ps : List Piece) (k : ℕ) (d : Piece) (h : Head) → k < length ps → is_text (piece_layout row (get_or ps k d)) ≡ true → belongs (row_layout row (drop k ps)) h ≡ belongs (row_layout row (drop (k + 1) ps)) h
text_skip row ps k d h l e = ap (λ f. belongs f h) (pieces_next row ps k d l) ∙ if_true (is_text (piece_layout row (get_or ps k d))) (belongs (row_layout row (drop (k + 1) ps)) h) (belongs (piece_layout row (get_or ps k d)) h) e

pub piece_tells : (row : ℕ → Layout) (ps : List Piece) (k : ℕ) (d : Piece) (h : Head) → k < length ps → is_text (piece_layout row (get_or ps k d)) ≡ false → belongs (row_layout row (drop k ps)) h ≡ belongs (piece_layout row (get_or ps k d)) h
piece_tells row ps k d h l e = ap (λ f. belongs f h) (pieces_next row ps k d l) ∙ if_false (is_text (piece_layout row (get_or ps k d))) (belongs (row_layout row (drop (k + 1) ps)) h) (belongs (piece_layout row (get_or ps k d)) h) e

pub pieces_end : (row : ℕ → Layout) (ps : List Piece) (k : ℕ) → length ps ≤ k → row_layout row (drop k ps) ≡ Layout.text []
pieces_end row ps k h = ap (row_layout row) (drop_end ps k h)

pub row_belongs : (table : Table) (n r : ℕ) (h : Head) (b : Bool) → r < n → b ≡ belongs (row_layout (layout table r) (slice_index_or table r [])) h → b ≡ belongs (layout table n r) h
row_belongs table n r h b i e = e ∙ ap (λ f. belongs f h) (sym (layout_row table n r i))

pub none_belongs : (table : Table) (n r : ℕ) (h : Head) → n ≤ r → belongs (layout table n r) h ≡ false
none_belongs table n r h i = ap (λ f. belongs f h) (layout_none table n r i)

pub one_more : (row : ℕ → Layout) (r e : ℕ) → r < e → one_of row r (e - r) ≡ either (row r) (one_of row (r + 1) (e - (r + 1)))
one_more row r e h = ap (one_of row r) (let i : e - r ≡ suc (e - (r + 1)) = omega arith in i)

pub belongs_skip : (row : ℕ → Layout) (r e : ℕ) (h : Head) → r < e → belongs (row r) h ≡ false → belongs (one_of row r (e - r)) h ≡ belongs (one_of row (r + 1) (e - (r + 1))) h
belongs_skip row r e h l i = ap (λ f. belongs f h) (one_more row r e l) ∙ ap (λ x. x || belongs (one_of row (r + 1) (e - (r + 1))) h) i

-- the row of a choice

next_tells : (f : Layout) (ts : List Tree) (h : Option Head) (b : Bool) → first_head ts ≡ h → head_belongs f h ≡ b → next_belongs f ts ≡ b
next_tells f ts h b e i = ap (head_belongs f) e ∙ i

pub first_fits : (f g : Layout) (h : Option Head) → head_belongs f h ≡ true → Chooses (either f g) h f
first_fits f g h i = λ names below ts e. if_true (next_belongs f ts) (prints names below f ts) (prints names below g ts) (next_tells f ts h true e i)

pub second_fits : (f g : Layout) (h : Option Head) → head_belongs f h ≡ false → Chooses (either f g) h g
second_fits f g h i = λ names below ts e. if_false (next_belongs f ts) (prints names below f ts) (prints names below g ts) (next_tells f ts h false e i)

pub choose_found : (row : ℕ → Layout) (r e : ℕ) (h : Option Head) → r < e → head_belongs (row r) h ≡ true → Chooses (one_of row r (e - r)) h (row r)
choose_found row r e h l i = λ names below ts j. ap (λ f. prints names below f ts) (one_more row r e l) ∙ first_fits (row r) (one_of row (r + 1) (e - (r + 1))) h i names below ts j

pub choose_skip : (row : ℕ → Layout) (r e : ℕ) (h : Option Head) → r < e → head_belongs (row r) h ≡ false → Chooses (one_of row r (e - r)) h (one_of row (r + 1) (e - (r + 1)))
choose_skip row r e h l i = λ names below ts j. ap (λ f. prints names below f ts) (one_more row r e l) ∙ second_fits (row r) (one_of row (r + 1) (e - (r + 1))) h i names below ts j

pub choose_end : (row : ℕ → Layout) (r n : ℕ) (h : Option Head) → n ≡ 0 → Chooses (one_of row r n) h never
choose_end row r n h e = λ names below ts j. ap (λ k. prints names below (one_of row r k) ts) e

pub may_fits : (f : Layout) (h : Option Head) → head_belongs f h ≡ true → Chooses (Layout.may f) h f
may_fits f h i = λ names below ts e. if_true (next_belongs f ts) (prints names below f ts) (printed [] ts) (next_tells f ts h true e i)

pub may_none : (f : Layout) (h : Option Head) → head_belongs f h ≡ false → Chooses (Layout.may f) h never
may_none f h i = λ names below ts e. if_false (next_belongs f ts) (prints names below f ts) (printed [] ts) (next_tells f ts h false e i)

-- turns of a repeated row

abbrev pub turns : Table → List (List ℕ) → ℕ → Layout → ℕ → Printer
turns table names depth f n ts = repeated (next_belongs f) (prints_in table names depth f) n ts

pub turns_none : (table : Table) (names : List (List ℕ)) (depth : ℕ) (f : Layout) (n : ℕ) (ts : List Tree) → n ≡ 0 → turns table names depth f n ts ≡ printed [] ts
turns_none table names depth f zero ts e = refl
turns_none table names depth f (suc n) ts e = absurd (omega arith)

pub turns_stop : (table : Table) (names : List (List ℕ)) (depth : ℕ) (f : Layout) (n : ℕ) (ts : List Tree) → next_belongs f ts ≡ false → turns table names depth f n ts ≡ printed [] ts
turns_stop table names depth f zero ts e = refl
turns_stop table names depth f (suc n) ts e = if_false (next_belongs f ts) (followed (prints_in table names depth f ts) (turns table names depth f n)) (printed [] ts) e

pub turns_next : (table : Table) (names : List (List ℕ)) (depth : ℕ) (f : Layout) (n : ℕ) (ts : List Tree) → 0 < n → next_belongs f ts ≡ true → turns table names depth f n ts ≡ followed (prints_in table names depth f ts) (turns table names depth f (n - 1))
turns_next table names depth f zero ts l e = absurd (omega arith)
turns_next table names depth f (suc n) ts l e =
    if_true (next_belongs f ts) (followed (prints_in table names depth f ts) (turns table names depth f n)) (printed [] ts) e
    ∙ ap (λ k. followed (prints_in table names depth f ts) (turns table names depth f k)) (omega arith)

pub turns_text : (table : Table) (names : List (List ℕ)) (depth : ℕ) (f : Layout) (n : ℕ) (ts us : List Tree) (old new all : List ℕ) → 0 < n → next_belongs f ts ≡ true → new ≡ old ++ (prints_in table names depth f ts).text → us ≡ (prints_in table names depth f ts).rest → old ++ (turns table names depth f n ts).text ≡ all → new ++ (turns table names depth f (n - 1) us).text ≡ all
turns_text table names depth f n ts us old new all l b e g h =
    ap₂ (λ a x. a ++ (turns table names depth f (n - 1) x).text) e g
    ∙ append_assoc old (prints_in table names depth f ts).text (turns table names depth f (n - 1) (prints_in table names depth f ts).rest).text
    ∙ ap (λ x. old ++ x.text) (sym (turns_next table names depth f n ts l b))
    ∙ h

pub turns_rest : (table : Table) (names : List (List ℕ)) (depth : ℕ) (f : Layout) (n : ℕ) (ts us all : List Tree) → 0 < n → next_belongs f ts ≡ true → us ≡ (prints_in table names depth f ts).rest → (turns table names depth f n ts).rest ≡ all → (turns table names depth f (n - 1) us).rest ≡ all
turns_rest table names depth f n ts us all l b g h =
    ap (λ x. (turns table names depth f (n - 1) x).rest) g ∙ ap (λ x. x.rest) (sym (turns_next table names depth f n ts l b)) ∙ h

-- no row of a choice

pub none_text : (table : Table) (names : List (List ℕ)) (depth : ℕ) (f : Layout) (h : Option Head) (ts : List Tree) (out : List ℕ) → Chooses f h never → h ≡ first_head ts → out ≡ out ++ (prints_in table names depth f ts).text
none_text table names depth f h ts out c e = sym (append-nil out) ∙ ap (λ x. out ++ x.text) (sym (c names (tree_text table names depth) ts (sym e)))

pub none_rest : (table : Table) (names : List (List ℕ)) (depth : ℕ) (f : Layout) (h : Option Head) (ts : List Tree) → Chooses f h never → h ≡ first_head ts → ts ≡ (prints_in table names depth f ts).rest
none_rest table names depth f h ts c e = ap (λ x. x.rest) (sym (c names (tree_text table names depth) ts (sym e)))

-- the text of a tree, one level down

pub text_none : (table : Table) (names : List (List ℕ)) (n r : ℕ) (t : Tree) → n ≡ 0 → tree_text table names n r t ≡ []
unfolding tree_text
text_none table names zero r t e = refl
text_none table names (suc n) r t e = absurd (omega arith)

pub text_more : (rows : List (Bor (List Piece))) (names : List (List ℕ)) (n r : ℕ) (t : Tree) → 0 < n → tree_text (rows_of rows) names n r t ≡ (prints_in (rows_of rows) names (n - 1) (layout (rows_of rows) (length rows) r) (t ∷ [])).text
unfolding tree_text
text_more rows names zero r t e = absurd (omega arith)
text_more rows names (suc n) r t e = ap₂ (λ m k. (prints_in (rows_of rows) names m (layout (rows_of rows) k r) (t ∷ [])).text) (omega arith) (rows_many rows)

pub ruleset row_laws = (row_at, one_of_text, text_takes, piece_takes, row_takes, none_takes, row_belongs, none_belongs, pieces_end, piece_tells, text_skip, takes_next, takes_end, first_fits, second_fits, may_fits, may_none)

pub ruleset print_laws = (layout_row, layout_none, pieces_end, turns_none, turns_stop, text_none, text_more, single_one, tree_of_NoTree, append_assoc, append-nil)
