-- What a row of a table is made of is a tree of the table, whose names and numbers are known.
use Rattle.std.proofs.Common.{◌≡◌, ℕ, zero, suc, ◌+◌, ◌^◌, ◌≤◌, Bool, true, false, ◌==◌, ◌&&◌, nat_lt, inl, inr, List, [], ◌∷◌, length, slice_index_or, refl, ap, sym, ◌∙◌, subst, arith}
use Rattle.std.proofs.lemmas.Bool.Decides.{nat_tests}
use Rattle.std.proofs.lemmas.Bool.{and_from, and_parts}
use Rattle.std.specs.List.{AllByRecursion}
use Rattle.cv_syntax_trees.proofs.lists.Each.{AllByRecursion_append}
use Rattle.cv_syntax_trees.specs.declared.head.Head.{Head}
use Rattle.cv_syntax_trees.specs.declared.head.Head.TheVariants as head
use Rattle.cv_syntax_trees.specs.Tree.{Tree, Empty, Node, chain, lone}
use Rattle.cv_parse_tables.specs.declared.piece.Piece.{Piece}
use Rattle.cv_parse_tables.specs.declared.piece.Piece.TheVariants as piece
use Rattle.cv_parse_tables.specs.Table.{Table}
use Rattle.cv_parse_tables.specs.Trees.{all_of, over, single}
use Rattle.cv_print_scripts.specs.Known.{head_is_known, is_known}
use Rattle.cv_print_scripts.specs.steps.Trees.{IsOuter, IsTree, JustOne, Makes, OneMakes, PieceMakes, PiecesMake, RowMakes, which}
use Rattle.cv_print_bytes.specs.terminals.Written.{is_name}
use Rattle.cv_script.specs.rows.Rows.{script_rows}
use Rattle.cv_script_laws.proofs.forms.Made.{OneMade, PieceMade, PiecesMade, RowMade, choice, not_less}
use Rattle.cv_script_laws.proofs.printing.Files.{IsText}

-- a head of a table that has no name but `bool`
abbrev is_plain : Head → Bool
is_plain (head.Name zero) = true
is_plain h = head_is_known 0 h

both_not_below : (x y : ℕ) → (nat_lt x 0 && nat_lt y 0) ≡ true → ⊥
both_not_below x y e = not_less x (and_parts (nat_lt x 0) (nat_lt y 0) e).0

plain_known : (count : ℕ) → nat_lt 0 count ≡ true → (h : Head) → is_plain h ≡ true → head_is_known count h ≡ true
plain_known count some (head.Name zero) e = some
plain_known count some (head.Name (suc x)) e = absurd (not_less (suc x) e)
plain_known count some (head.Leaf x) e = absurd (not_less x e)
plain_known count some (head.Primed x) e = absurd (not_less x e)
plain_known count some (head.Read x) e = absurd (not_less x e)
plain_known count some (head.Apply x) e = absurd (not_less x e)
plain_known count some (head.In x) e = absurd (not_less x e)
plain_known count some (head.Out x) e = absurd (not_less x e)
plain_known count some (head.Event x) e = absurd (not_less x e)
plain_known count some (head.Repl x y) e = absurd (both_not_below x y e)
plain_known count some (head.New x y) e = absurd (both_not_below x y e)
plain_known count some (head.Let x y) e = absurd (both_not_below x y e)
plain_known count some (head.Binder x y) e = absurd (both_not_below x y e)
plain_known count some h e = e

abbrev piece_is_plain : Piece → Bool
piece_is_plain (piece.Over h r) = is_plain h
piece_is_plain p = true

abbrev pieces_are_plain : List Piece → Bool
pieces_are_plain [] = true
pieces_are_plain (p ∷ ps) = piece_is_plain p && pieces_are_plain ps

abbrev rows_are_plain : Table → ℕ → Bool
rows_are_plain table zero = true
rows_are_plain table (suc n) = pieces_are_plain (slice_index_or table n []) && rows_are_plain table n

scripts_are_plain : rows_are_plain script_rows (length script_rows) ≡ true
scripts_are_plain = refl

module _ (count : ℕ) (some : nat_lt 0 count ≡ true) where
  abbrev pub IsKnown : Tree → Type 0
  IsKnown t = is_known count t ≡ true

  abbrev pub AreKnown : List Tree → Type 0
  AreKnown ts = AllByRecursion IsKnown ts

  node_known : (h : Head) (a b : Tree) → head_is_known count h ≡ true → IsKnown a → IsKnown b → IsKnown (Node h a b)
  unfolding is_known
  node_known h a b e v w = and_from (head_is_known count h) (is_known count a && is_known count b) e (and_from (is_known count a) (is_known count b) v w)

  empty_known : IsKnown Empty
  unfolding is_known
  empty_known = refl

  chain_known : (l : List Tree) → AreKnown l → IsKnown (chain l)
  chain_known [] w = empty_known
  chain_known (t ∷ l) w = node_known head.Cons t (chain l) refl w.0 (chain_known l w.1)

  pub single_known : (l : List Tree) → AreKnown l → IsKnown (single l)
  single_known [] w = empty_known
  single_known (t ∷ []) w = w.0
  single_known (t ∷ (u ∷ l)) w = node_known head.Cons t (single (u ∷ l)) refl w.0 (single_known (u ∷ l) w.1)

  over_known : (h : Head) (l : List Tree) → head_is_known count h ≡ true → AreKnown l → IsKnown (over h l)
  over_known h [] e w = node_known h Empty Empty e empty_known empty_known
  over_known h (t ∷ l) e w = node_known h t (single l) e w.0 (single_known l w.1)

  -- what names and numbers are
  abbrev pub NameIs : ℕ → Type 0
  NameIs x = (is_name x ≡ true) × (nat_lt x count ≡ true)

  abbrev pub NumberIs : ℕ → Type 0
  NumberIs v = nat_lt v (2 ^ 64) ≡ true

  name_not_bool : (x : ℕ) → is_name x ≡ true → (y : ℕ) × (x ≡ suc y)
  name_not_bool zero e = absurd (cc)
  name_not_bool (suc y) e = (y, refl)

  module _ (below : ℕ → Tree → Type 0) where
    abbrev pub BelowIs : ℕ → Tree → Type 0
    BelowIs r t = below r t × IsKnown t

    -- known trees that are such
    abbrev Both : Makes → List Tree → Type 0
    Both P ts = P ts × AreKnown ts

    no_trees : (ts : List Tree) → ts ≡ [] → Both (λ l. l ≡ []) ts
    no_trees ts e = (e, subst AreKnown (sym e) tt)

    one_tree : (P : Tree → Type 0) (ts : List Tree) (t : Tree) → ts ≡ t ∷ [] → P t → IsKnown t → Both (JustOne P) ts
    one_tree P ts t e p k = ((t, e, p), subst AreKnown (sym e) (k, tt))

    module _ (made makes : ℕ → Makes) (row : (r : ℕ) (ts : List Tree) → made r ts → Both (makes r) ts) where
      all_rows : (r : ℕ) (l : List (List Tree)) → AllByRecursion (made r) l → AllByRecursion (makes r) l × AreKnown (all_of l)
      all_rows r [] d = (tt, tt)
      all_rows r (ts ∷ l) d =
          let x = row r ts d.0 in
          let y = all_rows r l d.1 in
          ((x.0, y.0), AllByRecursion_append IsKnown ts (all_of l) x.1 y.1)

      one_row : (r n : ℕ) (ts : List Tree) → OneMade NameIs NumberIs (IsText count some) BelowIs made r n ts → Both (OneMakes below makes r n) ts
      one_row r zero ts d = absurd d
      one_row r (suc n) ts (inl d) = let x = row r ts d in (inl x.0, x.1)
      one_row r (suc n) ts (inr d) = let x = one_row (r + 1) n ts d in (inr x.0, x.1)

      a_piece : (p : Piece) → piece_is_plain p ≡ true → (ts : List Tree) → PieceMade NameIs NumberIs (IsText count some) BelowIs made p ts → Both (PieceMakes below makes p) ts
      a_piece (piece.Sign m) e ts d = no_trees ts d
      a_piece (piece.ScriptWord w) e ts d = no_trees ts d
      a_piece piece.Blank e ts d = no_trees ts d
      a_piece (piece.Note r) e ts d = no_trees ts d
      a_piece (piece.Word r) e ts d =
          let w = d.2 in
          let y = name_not_bool w.0 w.2.0 in
          one_tree (λ t. (x : ℕ) × (t ≡ lone (head.Name (suc x)))) ts d.0 d.1 (y.0, w.1 ∙ ap (λ x. lone (head.Name x)) y.1) (subst IsKnown (sym w.1) (node_known (head.Name w.0) Empty Empty w.2.1 empty_known empty_known))
      a_piece piece.Number e ts d =
          let w = d.2 in
          one_tree (λ t. (v : ℕ) × (t ≡ lone (head.Number v))) ts d.0 d.1 (w.0, w.1) (subst IsKnown (sym w.1) (node_known (head.Number w.0) Empty Empty w.2 empty_known empty_known))
      a_piece (piece.Phrase p) e ts d = one_tree (IsOuter p) ts d.0 d.1 d.2.0 d.2.1
      a_piece (piece.Deeper r) e ts d = one_tree (below r) ts d.0 d.1 d.2.0 d.2.1
      a_piece (piece.May near r) e ts (inl d) = let x = no_trees ts d in (inl x.0, x.1)
      a_piece (piece.May near r) e ts (inr d) = let x = row r ts d in (inr x.0, x.1)
      a_piece (piece.Many near r) e ts d = let x = all_rows r d.0 d.2 in ((d.0, d.1, x.0), subst AreKnown (sym d.1) x.1)
      a_piece (piece.Either r s) e ts (inl d) = let x = row r ts d in (inl x.0, x.1)
      a_piece (piece.Either r s) e ts (inr d) = let x = row s ts d in (inr x.0, x.1)
      a_piece (piece.OneOf r n) e ts d = one_row r n ts d
      a_piece (piece.Chain r) e ts d =
          let w = d.2 in
          let x = row r w.0 w.2 in
          one_tree (λ t. (l : List Tree) × (t ≡ chain l) × makes r l) ts d.0 d.1 (w.0, w.1, x.0) (subst IsKnown (sym w.1) (chain_known w.0 x.1))
      a_piece (piece.Over h r) e ts d =
          let w = d.2 in
          let x = row r w.0 w.2 in
          one_tree (λ t. (l : List Tree) × (t ≡ over h l) × makes r l) ts d.0 d.1 (w.0, w.1, x.0) (subst IsKnown (sym w.1) (over_known h w.0 (plain_known count some h e) x.1))
      a_piece (piece.Level r) e ts d = row r ts d

      some_pieces : (ps : List Piece) → pieces_are_plain ps ≡ true → (ts : List Tree) → PiecesMade NameIs NumberIs (IsText count some) BelowIs made ps ts → Both (PiecesMake below makes ps) ts
      some_pieces [] e ts d = no_trees ts d
      some_pieces (p ∷ ps) e ts d =
          let f = and_parts (piece_is_plain p) (pieces_are_plain ps) e in
          let x = a_piece p f.0 d.front d.first in
          let y = some_pieces ps f.1 d.back d.second in
          (record { front = d.front; back = d.back; parts = d.parts; first = x.0; second = y.0 }, subst AreKnown (sym d.parts) (AllByRecursion_append IsKnown d.front d.back x.1 y.1))

    by_choice : (b : Bool) (A B : Type 0) (P Q : Makes) (ts : List Tree) → (A → Both P ts) → (B → Both Q ts) → choice NameIs NumberIs (IsText count some) BelowIs b A B → which below b (P ts) (Q ts) × AreKnown ts
    by_choice true A B P Q ts f g d = f d
    by_choice false A B P Q ts f g d = g d

    -- what a row is made of it makes, and that is known
    pub a_row : (table : Table) (n r : ℕ) → rows_are_plain table n ≡ true → (ts : List Tree) → RowMade NameIs NumberIs (IsText count some) BelowIs table n r ts → RowMakes below table n r ts × AreKnown ts
    unfolding RowMade
    a_row table zero r e ts d = absurd d
    a_row table (suc n) r e ts d =
        let f = and_parts (pieces_are_plain (slice_index_or table n [])) (rows_are_plain table n) e in
        by_choice (r == n) (PiecesMade NameIs NumberIs (IsText count some) BelowIs (RowMade NameIs NumberIs (IsText count some) BelowIs table n) (slice_index_or table n []) ts) (RowMade NameIs NumberIs (IsText count some) BelowIs table n r ts) (PiecesMake below (RowMakes below table n) (slice_index_or table n [])) (RowMakes below table n r) ts
        (some_pieces (RowMade NameIs NumberIs (IsText count some) BelowIs table n) (RowMakes below table n) (λ q us. a_row table n q f.1 us) (slice_index_or table n []) f.0 ts)
        (a_row table n r f.1 ts)
        d

  -- so the tree of a row is one of the table, in one level more than those below, and it is known
  pub tree_from : (table : Table) (n r : ℕ) → rows_are_plain table (length table) ≡ true → (ts : List Tree) → RowMade NameIs NumberIs (IsText count some) (BelowIs (IsTree table n)) table (length table) r ts → IsTree table (suc n) r (single ts) × AreKnown ts
  unfolding IsTree
  tree_from table n r e ts d = let x = a_row (IsTree table n) table (length table) r e ts d in ((ts, refl, x.0), x.1)

  -- the same for the table of scripts
  pub script_tree : (n r : ℕ) (ts : List Tree) → RowMade NameIs NumberIs (IsText count some) (BelowIs (IsTree script_rows n)) script_rows 159 r ts → IsTree script_rows (suc n) r (single ts) × AreKnown ts
  script_tree n r ts d = tree_from script_rows n r scripts_are_plain ts d
