-- Which trees the rows of a table make. This profile's own.
use Rattle.std.specs.Prelude.{◌≡◌, ℕ, zero, suc, ◌+◌, Bool, true, false, ◌==◌, List, [], ◌∷◌, ◌++◌, length, slice_index_or, ◌⊎◌}
use Rattle.std.specs.List.{AllByRecursion}
use Rattle.cv_syntax_trees.specs.declared.head.Head.TheVariants as head
use Rattle.cv_syntax_trees.specs.Tree.{Tree, chain, lone}
use Rattle.cv_parse_grammar.specs.Marks.{plain, plain_cell}
use Rattle.cv_parse_tables.specs.declared.piece.Outer.{Outer}
use Rattle.cv_parse_tables.specs.declared.piece.Outer.TheVariants as outer
use Rattle.cv_parse_tables.specs.declared.piece.Piece.{Piece}
use Rattle.cv_parse_tables.specs.declared.piece.Piece.TheVariants as piece
use Rattle.cv_parse_tables.specs.Table.{Table}
use Rattle.cv_parse_tables.specs.Trees.{all_of, over, single}
use Rattle.cv_scope_rules.specs.Phrases.{OneCell, Term, Terms}
use Rattle.cv_print_bytes.specs.terminals.Written.{IsWritten, has_items}

-- terms, and one at least; names in them may have marks
pub record AreTerms (t : Tree) : Type 0 where
  pub written : IsWritten Terms (plain true t)
  pub some : has_items t ≡ true

abbrev pub IsOuter : Outer → Tree → Type 0
IsOuter outer.Terms t = AreTerms t
IsOuter outer.InnerSubscript t = AreTerms t
IsOuter outer.Cell t = IsWritten OneCell (plain_cell true t)
IsOuter outer.InnerCell t = IsWritten OneCell (plain_cell true t)
IsOuter p t = IsWritten Term (plain true t)

abbrev pub Makes : Type 1
Makes = List Tree → Type 0

-- one tree, which is one of these
abbrev pub JustOne : (Tree → Type 0) → Makes
JustOne P ts = (t : Tree) × (ts ≡ t ∷ []) × P t

-- a name, but not `bool`
abbrev pub IsName : Tree → Type 0
IsName t = (x : ℕ) × (t ≡ lone (head.Name (suc x)))

abbrev pub IsNumber : Tree → Type 0
IsNumber t = (v : ℕ) × (t ≡ lone (head.Number v))

-- trees of one part behind those of another
pub record Behind (P Q : Makes) (ts : List Tree) : Type 0 where
  pub front : List Tree
  pub back : List Tree
  pub parts : ts ≡ front ++ back
  pub first : P front
  pub second : Q back

module _ (below : ℕ → Tree → Type 0) where
  abbrev pub OneMakes : (ℕ → Makes) → ℕ → ℕ → Makes
  OneMakes row r zero ts = ⊥
  OneMakes row r (suc n) ts = row r ts ⊎ OneMakes row (r + 1) n ts

  -- a piece, where the rows that it speaks of make these
  abbrev pub PieceMakes : (ℕ → Makes) → Piece → Makes
  PieceMakes row (piece.Sign m) ts = ts ≡ []
  PieceMakes row (piece.ScriptWord w) ts = ts ≡ []
  PieceMakes row piece.Blank ts = ts ≡ []
  PieceMakes row (piece.Note r) ts = ts ≡ []
  PieceMakes row (piece.Word r) ts = JustOne IsName ts
  PieceMakes row piece.Number ts = JustOne IsNumber ts
  PieceMakes row (piece.Phrase p) ts = JustOne (IsOuter p) ts
  PieceMakes row (piece.Deeper r) ts = JustOne (below r) ts
  PieceMakes row (piece.May near r) ts = (ts ≡ []) ⊎ row r ts
  PieceMakes row (piece.Many near r) ts = (l : List (List Tree)) × (ts ≡ all_of l) × AllByRecursion (row r) l
  PieceMakes row (piece.Either r s) ts = row r ts ⊎ row s ts
  PieceMakes row (piece.OneOf r n) ts = OneMakes row r n ts
  PieceMakes row (piece.Chain r) ts = JustOne (λ t. (l : List Tree) × (t ≡ chain l) × row r l) ts
  PieceMakes row (piece.Over h r) ts = JustOne (λ t. (l : List Tree) × (t ≡ over h l) × row r l) ts
  PieceMakes row (piece.Level r) ts = row r ts

  abbrev pub PiecesMake : (ℕ → Makes) → List Piece → Makes
  PiecesMake row [] ts = ts ≡ []
  PiecesMake row (p ∷ ps) ts = Behind (PieceMakes row p) (PiecesMake row ps) ts

  abbrev pub which : Bool → Type 0 → Type 0 → Type 0
  which true A B = A
  which false A B = B

  -- the row of the number, of so many
  abbrev pub RowMakes : Table → ℕ → ℕ → Makes
  RowMakes table zero r ts = ⊥
  RowMakes table (suc n) r ts = which (r == n) (PiecesMake (RowMakes table n) (slice_index_or table n []) ts) (RowMakes table n r ts)

-- a tree that a row makes in so many levels
unfoldable pub IsTree : Table → ℕ → ℕ → Tree → Type 0
IsTree table zero r t = ⊥
IsTree table (suc n) r t = (ts : List Tree) × (t ≡ single ts) × RowMakes (IsTree table n) table (length table) r ts
