-- What is spelled by a row of a table is made of what its pieces make.
use Rattle.std.proofs.Common.{◌≡◌, ℕ, zero, suc, ◌+◌, ◌<◌, Bool, true, false, ◌==◌, nat_lt, ◌⊎◌, inl, inr, List, [], ◌∷◌, slice_index_or, Option, Some, None, refl, sym, subst, arith, eqb-true}
use Rattle.std.proofs.lemmas.Bool.{cases_lt, eqb-false, lt-ltb}
use Rattle.std.proofs.lemmas.Bool.Decides.{nat_tests}
use Rattle.std.specs.List.{AllByRecursion}
use Rattle.cv_syntax_trees.specs.declared.head.Head.TheVariants.{Name, Number}
use Rattle.cv_syntax_trees.specs.Tree.{Tree, chain, lone}
use Rattle.cv_parse_notation.specs.declared.script.ScriptWord.{ScriptWord}
use Rattle.cv_parse_notation.specs.declared.sign.Sign.{Sign}
use Rattle.cv_parse_notation.specs.declared.sign.Sign.TheVariants as token
use Rattle.cv_parse_notation.specs.Spells.{Each, Kind, Perhaps, Relation, Spells, starts}
use Rattle.cv_parse_grammar.specs.Names.{Uses}
use Rattle.cv_parse_grammar.specs.declared.role.Role.{Role}
use Rattle.cv_parse_tables.specs.declared.piece.Outer.{Outer}
use Rattle.cv_parse_tables.specs.declared.piece.Piece.{Piece}
use Rattle.cv_parse_tables.specs.declared.piece.Piece.TheVariants as piece
use Rattle.cv_parse_tables.specs.Table.{Nowhere, Row, Table, TableSort, TreesForm, blank, carried, form, never, one_of, outer_form, piece_form, row_form, which}
use Rattle.cv_parse_tables.specs.Trees.{all_of, over, perhaps}
use Rattle.cv_print_scripts.specs.steps.Trees.{Behind, JustOne, Makes}

pub not_less : (r : ℕ) → nat_lt r 0 ≡ true → ⊥
not_less r e = let l : r < 0 = grind (arith, nat_tests) in omega arith

less : (r n : ℕ) → nat_lt r (suc n) ≡ true → (r == n) ≡ false → nat_lt r n ≡ true
less r n e i = let l : r < suc n = grind (arith, nat_tests) in lt-ltb r n (elim (cases_lt r n) [ inl h ↦ h | inr h ↦ absurd (eqb-false r n i (omega (arith, l, h))) ])

-- what names, numbers, phrases of files and rows one level down are
module _ (IsName IsNumber : ℕ → Type 0) (IsText : Outer → Tree → Type 0) (IsBelow : ℕ → Tree → Type 0) where
  abbrev pub OneMade : (ℕ → Makes) → ℕ → ℕ → Makes
  OneMade row r zero ts = ⊥
  OneMade row r (suc n) ts = row r ts ⊎ OneMade row (r + 1) n ts

  -- a piece, where the rows that it speaks of make these
  abbrev pub PieceMade : (ℕ → Makes) → Piece → Makes
  PieceMade row (piece.Sign m) ts = ts ≡ []
  PieceMade row (piece.ScriptWord w) ts = ts ≡ []
  PieceMade row piece.Blank ts = ts ≡ []
  PieceMade row (piece.Note r) ts = ts ≡ []
  PieceMade row (piece.Word r) ts = JustOne (λ t. (x : ℕ) × (t ≡ lone (Name x)) × IsName x) ts
  PieceMade row piece.Number ts = JustOne (λ t. (v : ℕ) × (t ≡ lone (Number v)) × IsNumber v) ts
  PieceMade row (piece.Phrase p) ts = JustOne (IsText p) ts
  PieceMade row (piece.Deeper r) ts = JustOne (IsBelow r) ts
  PieceMade row (piece.May near r) ts = (ts ≡ []) ⊎ row r ts
  PieceMade row (piece.Many near r) ts = (l : List (List Tree)) × (ts ≡ all_of l) × AllByRecursion (row r) l
  PieceMade row (piece.Either r s) ts = row r ts ⊎ row s ts
  PieceMade row (piece.OneOf r n) ts = OneMade row r n ts
  PieceMade row (piece.Chain r) ts = JustOne (λ t. (l : List Tree) × (t ≡ chain l) × row r l) ts
  PieceMade row (piece.Over h r) ts = JustOne (λ t. (l : List Tree) × (t ≡ over h l) × row r l) ts
  PieceMade row (piece.Level r) ts = row r ts

  -- pieces one behind another
  abbrev pub PiecesMade : (ℕ → Makes) → List Piece → Makes
  PiecesMade row [] ts = ts ≡ []
  PiecesMade row (p ∷ ps) ts = Behind (PieceMade row p) (PiecesMade row ps) ts

  abbrev pub choice : Bool → Type 0 → Type 0 → Type 0
  choice true A B = A
  choice false A B = B

  -- the row of the number, of so many
  unfoldable pub RowMade : Table → ℕ → ℕ → Makes
  RowMade table zero r ts = ⊥
  RowMade table (suc n) r ts = choice (r == n) (PiecesMade (RowMade table n) (slice_index_or table n []) ts) (RowMade table n r ts)

  -- a row among so many is made of its pieces
  abbrev pub AtRow : Table → ℕ → Makes
  AtRow table r ts = PiecesMade (RowMade table r) (slice_index_or table r []) ts

  pub row_at : (table : Table) (n r : ℕ) → nat_lt r n ≡ true → (ts : List Tree) → RowMade table n r ts → AtRow table r ts
  unfolding RowMade
  row_at table zero r e ts d = absurd d
  row_at table (suc n) r e ts d = by_test (r == n) refl d (λ f. row_at table n r f ts) where
    by_test : (b : Bool) → (r == n) ≡ b → choice b (PiecesMade (RowMade table n) (slice_index_or table n []) ts) (RowMade table n r ts) → (nat_lt r n ≡ true → RowMade table n r ts → AtRow table r ts) → AtRow table r ts
    by_test true i d rest = subst (λ k. AtRow table k ts) (sym (eqb-true r n i)) d
    by_test false i d rest = rest (less r n e i) d

  pub row_from : (table : Table) (n r : ℕ) → nat_lt r n ≡ true → (ts : List Tree) → AtRow table r ts → RowMade table n r ts
  unfolding RowMade
  row_from table zero r e ts d = absurd (not_less r e)
  row_from table (suc n) r e ts d = by_test (r == n) refl (λ f. row_from table n r f ts d) where
    by_test : (b : Bool) → (r == n) ≡ b → (nat_lt r n ≡ true → RowMade table n r ts) → choice b (PiecesMade (RowMade table n) (slice_index_or table n []) ts) (RowMade table n r ts)
    by_test true i rest = subst (λ k. AtRow table k ts) (eqb-true r n i) d
    by_test false i rest = rest (less r n e i)

  module _ (IsGood : Sign → Type 0) where
    abbrev pub AreGood : List Sign → Type 0
    AreGood ts = AllByRecursion IsGood ts

    -- what good tokens spell is such, and good tokens are left
    abbrev pub Tells : {A : Type 0} → Relation Role A → (A → Type 0) → Type 0
    Tells {A} S Q = (ts : List Sign) (a : A) (us : Uses) (rest : List Sign) → S ts a us rest → AreGood ts → Q a × AreGood rest

    perhaps_tells : (S : Relation Role (List Tree)) (Q : Makes) (near : Bool) (k : Kind → Bool) → Tells S Q → (ts : List Sign) (o : Option (List Tree)) (us : Uses) (rest : List Sign) → Perhaps S near k ts o us rest → AreGood ts → (l : List Tree) → perhaps o ≡ l → ((l ≡ []) ⊎ Q l) × AreGood rest
    perhaps_tells S Q near k q ts None us rest d w l e = (inl (sym e), subst AreGood d.0.tokens w)
    perhaps_tells S Q near k q ts (Some a) us rest d w l e = let x = q ts a us rest d w in (inr (subst Q e x.0), x.1)

    each_tells : (S : Relation Role (List Tree)) (Q : Makes) (near : Bool) (k : Kind → Bool) → Tells S Q → Tells (Each S near k) (AllByRecursion Q)
    each_tells S Q near k q ts [] us rest d w = (tt, subst AreGood d.0.tokens w)
    each_tells S Q near k q ts (a ∷ l) us rest d w =
        let x = q ts a d.front d.mid d.first w in
        let y = each_tells S Q near k q d.mid l d.back rest d.second x.1 in
        ((x.0, y.0), y.1)

    module _ (h : TableSort → Kind → Bool) (room : Bool) (low : TableSort → Relation Role Tree) (name : (x : ℕ) (w : ScriptWord) → IsGood (token.Word x w) → IsName x) (number : (v : ℕ) → IsGood (token.Number v) → IsNumber v) (text : (p : Outer) → Tells (Spells h room low (carried (outer_form p))) (IsText p)) (below : (r : ℕ) → Tells (low (Row r)) (IsBelow r)) (none : (ts : List Sign) (t : Tree) (us : Uses) (rest : List Sign) → low Nowhere ts t us rest → ⊥) where
      abbrev Spelled : TreesForm → Relation Role (List Tree)
      Spelled f ts l us rest = Spells h room low f ts l us rest

      no_phrase : (ts : List Sign) (l : List Tree) (us : Uses) (rest : List Sign) → Spelled never ts l us rest → ⊥
      no_phrase ts l us rest d = none ts d.0 us rest d.1

      a_blank : Tells (Spelled blank) (λ l. l ≡ [])
      a_blank ts l us rest d w =
          let x = perhaps_tells (Spelled never) (λ l. ⊥) false (starts h never) (λ ts a us rest d w. absurd (no_phrase ts a us rest d)) ts d.0 us rest d.1 w l d.2 in
          (elim x.0 as (λ _. l ≡ []) [ inl e ↦ e | inr e ↦ absurd e ], x.1)

      module _ (row : ℕ → TreesForm) (made : ℕ → Makes) (rows : (r : ℕ) → Tells (Spelled (row r)) (made r)) where
        of_one : (r n : ℕ) → Tells (Spelled (one_of row r n)) (OneMade made r n)
        of_one r zero ts l us rest d w = absurd (no_phrase ts l us rest d)
        of_one r (suc n) ts l us rest d w = elim d as (λ _. OneMade made r (suc n) l × AreGood rest) [
          | inl e ↦ let x = rows r ts l us rest e w in (inl x.0, x.1)
          | inr e ↦ let x = of_one (r + 1) n ts l us rest e.1 w in (inr x.0, x.1)
        ]

        of_piece : (p : Piece) → Tells (Spelled (piece_form row p)) (PieceMade made p)
        of_piece (piece.Sign m) ts l us rest d w = (sym d.2, (subst AreGood d.1.tokens w).1)
        of_piece (piece.ScriptWord v) ts l us rest d w = (sym d.2, (subst AreGood d.1.tokens w).1)
        of_piece piece.Blank ts l us rest d w = a_blank ts l us rest d w
        of_piece (piece.Note r) ts l us rest d w = (sym d.2, subst AreGood d.1.1.tokens w)
        of_piece (piece.Word r) ts l us rest d w = let g = subst AreGood d.1.tokens w in ((lone (Name d.0), sym d.2, (d.0, refl, name d.0 d.1.script g.0)), g.1)
        of_piece piece.Number ts l us rest d w = let g = subst AreGood d.1.tokens w in ((lone (Number d.0), sym d.2, (d.0, refl, number d.0 g.0)), g.1)
        of_piece (piece.Phrase p) ts l us rest d w = let x = text p ts d.0 us rest d.1 w in ((d.0, sym d.2, x.0), x.1)
        of_piece (piece.Deeper r) ts l us rest d w = let x = below r ts d.0 us rest d.1 w in ((d.0, sym d.2, x.0), x.1)
        of_piece (piece.May near r) ts l us rest d w = perhaps_tells (Spelled (row r)) (made r) near (starts h (row r)) (rows r) ts d.0 us rest d.1 w l d.2
        of_piece (piece.Many near r) ts l us rest d w = let x = each_tells (Spelled (row r)) (made r) near (starts h (row r)) (rows r) ts d.0 us rest d.1 w in ((d.0, sym d.2, x.0), x.1)
        of_piece (piece.Either r s) ts l us rest d w = elim d as (λ _. (made r l ⊎ made s l) × AreGood rest) [
          | inl e ↦ let x = rows r ts l us rest e w in (inl x.0, x.1)
          | inr e ↦ let x = rows s ts l us rest e.1 w in (inr x.0, x.1)
        ]
        of_piece (piece.OneOf r n) ts l us rest d w = of_one r n ts l us rest d w
        of_piece (piece.Chain r) ts l us rest d w = let x = rows r ts d.0 us rest d.1 w in ((chain d.0, sym d.2, (d.0, refl, x.0)), x.1)
        of_piece (piece.Over k r) ts l us rest d w = let x = rows r ts d.0 us rest d.1 w in ((over k d.0, sym d.2, (d.0, refl, x.0)), x.1)
        of_piece (piece.Level r) ts l us rest d w = rows r ts l us rest d.1 w

        of_pieces : (ps : List Piece) → Tells (Spelled (row_form row ps)) (PiecesMade made ps)
        of_pieces [] ts l us rest d w = a_blank ts l us rest d w
        of_pieces (p ∷ ps) ts l us rest d w =
            let c = d.1 in
            let x = of_piece p ts d.0.0 c.front c.mid c.first w in
            let y = of_pieces ps c.mid d.0.1 c.back rest c.second x.1 in
            (record { front = d.0.0; back = d.0.1; parts = sym d.2; first = x.0; second = y.0 }, y.1)

      by_choice : (b : Bool) (f g : TreesForm) (P Q : Makes) → Tells (Spelled f) P → Tells (Spelled g) Q → Tells (Spelled (which b f g)) (λ l. choice b (P l) (Q l))
      by_choice true f g P Q p q = p
      by_choice false f g P Q p q = q

      -- what a row spells is made by the row
      pub of_row : (table : Table) (n r : ℕ) → Tells (Spelled (form table n r)) (RowMade table n r)
      unfolding RowMade
      of_row table zero r = λ ts l us rest d w. absurd (no_phrase ts l us rest d)
      of_row table (suc n) r =
          by_choice (r == n) (row_form (form table n) (slice_index_or table n [])) (form table n r) (PiecesMade (RowMade table n) (slice_index_or table n [])) (RowMade table n r)
          (of_pieces (form table n) (RowMade table n) (of_row table n) (slice_index_or table n [])) (of_row table n r)
