-- Rows of a table: what they mean, and how they begin.
use Rattle.std.proofs.Common.{◌≡◌, ℕ, zero, suc, ◌+◌, ◌-◌, ◌<◌, ◌≤◌, Bool, true, false, List, [], ◌∷◌, length, drop, refl, ap, sym, ◌∙◌, arith, get_or, ◌||◌, eqb, slice_index_or, eqb-true}
use Rattle.std.proofs.lemmas.Bool.{eqb-false}
use Rattle.cv_parse_terms.proofs.Places.{next_at}
use Rattle.std.specs.Borrow.{Bor}
use Rattle.cv_parse_notation.specs.Spells.{Kind, may_vanish, starts}
use Rattle.cv_parse_tables.specs.declared.piece.Piece.{Piece}
use Rattle.cv_parse_tables.specs.Table.{Table, TreesForm, TableSort, Nowhere, rows_of, form, row_form, never, which, fronts, one_of}
use Rattle.cv_parse_notation.specs.Form.{either}

-- the rows of the program's table
pub row_at : (rows : List (Bor (List Piece))) (r : ℕ) (d : Bor (List Piece)) → r < length rows → slice_index_or (rows_of rows) r [] ≡ (get_or rows r d).now
row_at [] r d h = absurd (omega arith)
row_at (x ∷ rows) zero d h = refl
row_at (x ∷ rows) (suc r) d h = row_at rows r d (omega arith)

pub drop_at : {A : Type 0} (ps : List A) (k : ℕ) (d : A) → k < length ps → drop k ps ≡ get_or ps k d ∷ drop (k + 1) ps
drop_at [] k d h = absurd (omega arith)
drop_at (x ∷ ps) zero d h = refl
drop_at (x ∷ ps) (suc k) d h = let i : suc k + 1 ≡ suc (k + 1) = omega arith in rw i (drop_at ps k d (omega arith))

pub drop_end : {A : Type 0} (ps : List A) (k : ℕ) → length ps ≤ k → drop k ps ≡ []
drop_end [] zero h = refl
drop_end [] (suc k) h = refl
drop_end (x ∷ ps) zero h = absurd (omega arith)
drop_end (x ∷ ps) (suc k) h = drop_end ps k (omega arith)

-- a row means its pieces, over the rows before it
which_true : (b : Bool) (f g : TreesForm) → b ≡ true → which b f g ≡ f
which_true true f g h = refl
which_true false f g h = absurd (cc)

which_false : (b : Bool) (f g : TreesForm) → b ≡ false → which b f g ≡ g
which_false true f g h = absurd (cc)
which_false false f g h = refl

pub form_row : (table : Table) (n r : ℕ) → r < n → form table n r ≡ row_form (form table r) (slice_index_or table r [])
form_row table zero r h = absurd (omega arith)
form_row table (suc n) r h = go (eqb r n) refl (λ i. form_row table n r i) where
  go : (b : Bool) → eqb r n ≡ b → (r < n → form table n r ≡ row_form (form table r) (slice_index_or table r [])) → form table (suc n) r ≡ row_form (form table r) (slice_index_or table r [])
  go true e f =
      which_true (eqb r n) (row_form (form table n) (slice_index_or table n [])) (form table n r) e
      ∙ ap (λ m. row_form (form table m) (slice_index_or table m [])) (sym (eqb-true r n e))
  go false e f =
      let ne = eqb-false r n e in
      which_false (eqb r n) (row_form (form table n) (slice_index_or table n [])) (form table n r) e ∙ f (omega (arith, ne))

pub form_none : (table : Table) (n r : ℕ) → n ≤ r → form table n r ≡ never
form_none table zero r h = refl
form_none table (suc n) r h = go (eqb r n) refl (form_none table n r (omega arith)) where
  go : (b : Bool) → eqb r n ≡ b → form table n r ≡ never → form table (suc n) r ≡ never
  go true e f = let i = eqb-true r n e in absurd (omega (arith, i))
  go false e f = which_false (eqb r n) (row_form (form table n) (slice_index_or table n [])) (form table n r) e ∙ f

pub form_at : (rows : List (Bor (List Piece))) (n r : ℕ) (d : Bor (List Piece)) → r < n → n ≤ length rows → form (rows_of rows) n r ≡ row_form (form (rows_of rows) r) (get_or rows r d).now
form_at rows n r d h l = form_row (rows_of rows) n r h ∙ ap (row_form (form (rows_of rows) r)) (row_at rows r d (omega arith))

-- rows without tokens
pub vanishes_row : (rows : List (Bor (List Piece))) (n r : ℕ) (d : Bor (List Piece)) (b : Bool) → r < n → n ≤ length rows → b ≡ may_vanish (row_form (form (rows_of rows) r) (get_or rows r d).now) → b ≡ may_vanish (form (rows_of rows) n r)
vanishes_row rows n r d b h l e = e ∙ ap may_vanish (sym (form_at rows n r d h l))

pub vanishes_none : (table : Table) (n r : ℕ) → n ≤ r → may_vanish (form table n r) ≡ false
vanishes_none table n r h = ap may_vanish (form_none table n r h)

-- how rows begin
pub nowhere : (table : Table) (n : ℕ) (k : Kind) → fronts table n Nowhere k ≡ false
nowhere table zero k = refl
nowhere table (suc n) k = refl

pub starts_row : (rows : List (Bor (List Piece))) (h : TableSort → Kind → Bool) (n r : ℕ) (d : Bor (List Piece)) (k : Kind) (b : Bool) → r < n → n ≤ length rows → b ≡ starts h (row_form (form (rows_of rows) r) (get_or rows r d).now) k → b ≡ starts h (form (rows_of rows) n r) k
starts_row rows h n r d k b i l e = e ∙ ap (λ f. starts h f k) (sym (form_at rows n r d i l))

pub starts_none : (table : Table) (m n r : ℕ) (k : Kind) → n ≤ r → starts (fronts table m) (form table n r) k ≡ false
starts_none table m n r k h = ap (λ f. starts (fronts table m) f k) (form_none table n r h) ∙ nowhere table m k

pub starts_end : (table : Table) (m : ℕ) (row : ℕ → TreesForm) (ps : List Piece) (i : ℕ) (k : Kind) → length ps ≤ i → starts (fronts table m) (row_form row (drop i ps)) k ≡ false
starts_end table m row ps i k h = ap (λ x. starts (fronts table m) (row_form row x) k) (drop_end ps i h) ∙ nowhere table m k

pub one_more_law : (row : ℕ → TreesForm) (r e : ℕ) → r < e → one_of row r (e - r) ≡ either (row r) (one_of row (r + 1) (e - (r + 1)))
one_more_law row r e h = ap (one_of row r) (let i : e - r ≡ suc (e - (r + 1)) = omega arith in i)

or_false : (a b : Bool) → a ≡ false → (a || b) ≡ b
or_false a b h = ap (λ x. x || b) h

pub vanish_skip : (row : ℕ → TreesForm) (r e : ℕ) → r < e → may_vanish (row r) ≡ false → may_vanish (one_of row r (e - r)) ≡ may_vanish (one_of row (r + 1) (e - (r + 1)))
vanish_skip row r e h i = ap may_vanish (one_more_law row r e h) ∙ or_false (may_vanish (row r)) (may_vanish (one_of row (r + 1) (e - (r + 1)))) i

pub start_skip : (h : TableSort → Kind → Bool) (row : ℕ → TreesForm) (r e : ℕ) (k : Kind) → r < e → starts h (row r) k ≡ false → starts h (one_of row r (e - r)) k ≡ starts h (one_of row (r + 1) (e - (r + 1))) k
start_skip h row r e k l i = ap (λ f. starts h f k) (one_more_law row r e l) ∙ or_false (starts h (row r) k) (starts h (one_of row (r + 1) (e - (r + 1))) k) i

pub ruleset placed = (next_at)

pub ruleset empty = (nowhere)
