-- What a table means: a grammar in the notation of grammars.
use Rattle.std.specs.Prelude.{◌≡◌, ℕ, zero, suc, ◌+◌, Bool, true, false, ◌==◌, List, [], ◌∷◌, length, map, slice_index_or}
use Rattle.std.specs.Borrow.{Bor}
use Rattle.cv_syntax_trees.specs.Tree.{Tree, chain, lone}
use Rattle.cv_syntax_trees.specs.declared.head.Head.TheVariants as head
use Rattle.cv_parse_notation.specs.declared.sign.Sign.{Sign}
use Rattle.cv_parse_notation.specs.Form.{Form, sign, script_word, word, number, nought, find_word, unnamed, other, note, both, may, many, either, made, level, deeper}
use Rattle.cv_parse_notation.specs.Spells.{Kind, starts}
use Rattle.cv_parse_notation.specs.Reads.{Reader, ◌>>=◌, mapped, reads, read_sort, read_word, read_number, too_deep}
use Rattle.cv_parse_grammar.specs.declared.role.Role.{Role}
use Rattle.cv_parse_grammar.specs.Marks.{marked_rule, term_of}
use Rattle.cv_parse_grammar.specs.Phrases.{Sort, Term, Subscript, OneCell}
use Rattle.cv_parse_grammar.specs.Terms.{terms, cell}
use Rattle.cv_parse_grammar.specs.Rules.{heads}
use Rattle.cv_parse_terms.specs.Gives.{positive, read_note}
use Rattle.cv_parse_tables.specs.Trees.{single, over, perhaps, all_of, both_of}
use Rattle.cv_parse_tables.specs.declared.piece.Outer.{Outer}
use Rattle.cv_parse_tables.specs.declared.piece.Outer.TheVariants as outer
use Rattle.cv_parse_tables.specs.declared.piece.Piece.{Piece}
use Rattle.cv_parse_tables.specs.declared.piece.Piece.TheVariants as piece

abbrev pub Table : Type 0
Table = List (List Piece)

-- the rows of the program's table
abbrev pub rows_of : List (Bor (List Piece)) → Table
rows_of rows = map (λ r. r.now) rows

-- the phrases one level down: those of a row, those of the sorts of files, in which names may have marks, and none at all
pub data TableSort : Type 0 where
  Row : ℕ → TableSort
  OfFiles : Sort → TableSort
  Nowhere : TableSort

-- a phrase of files in a table
abbrev pub carried : {A : Type 0} → Form Role Sort A → Form Role TableSort A
carried (sign m) = sign m
carried (script_word w) = script_word w
carried (word r) = word r
carried number = number
carried nought = nought
carried find_word = find_word
carried (unnamed r) = unnamed r
carried other = other
carried (note r) = note r
carried (both f g) = both (carried f) (carried g)
carried (may near f) = may near (carried f)
carried (many near f) = many near (carried f)
carried (either f g) = either (carried f) (carried g)
carried (made v f) = made v (carried f)
carried (level f) = level (carried f)
carried (deeper s) = deeper (OfFiles s)

-- the phrases of files that may stand in a row, in which names may have marks
abbrev pub outer_form : Outer → Form Role Sort Tree
outer_form outer.Term = term_of true
outer_form outer.Terms = terms
outer_form outer.InnerTerm = deeper Term
outer_form outer.InnerSubscript = deeper Subscript
outer_form outer.Cell = cell
outer_form outer.InnerCell = deeper OneCell

-- a phrase that makes trees
abbrev pub TreesForm : Type 1
TreesForm = Form Role TableSort (List Tree)

-- no phrase
abbrev pub never : TreesForm
never = made (λ t. t ∷ []) (deeper Nowhere)

-- the one tree of a name, and of a number
abbrev pub named : ℕ → List Tree
named x = lone (head.Name x) ∷ []

abbrev pub counted : ℕ → List Tree
counted v = lone (head.Number v) ∷ []

-- a part that may be missing, and a repeated one
abbrev pub maybe_form : Bool → TreesForm → TreesForm
maybe_form near f = made perhaps (may near f)

abbrev pub many_form : Bool → TreesForm → TreesForm
many_form near f = made all_of (many near f)

-- the empty phrase
abbrev pub blank : TreesForm
blank = maybe_form false never

-- the first of so many rows that can begin
abbrev pub one_of : (ℕ → TreesForm) → ℕ → ℕ → TreesForm
one_of row r zero = never
one_of row r (suc n) = either (row r) (one_of row (r + 1) n)

-- a piece, where the rows that it speaks of mean phrases
abbrev pub piece_form : (ℕ → TreesForm) → Piece → TreesForm
piece_form row (piece.Sign m) = made (λ _. []) (sign m)
piece_form row (piece.ScriptWord w) = made (λ _. []) (script_word w)
piece_form row piece.Blank = blank
piece_form row (piece.Word r) = made named (word r)
piece_form row piece.Number = made counted number
piece_form row (piece.Phrase p) = made (λ t. t ∷ []) (carried (outer_form p))
piece_form row (piece.Deeper r) = made (λ t. t ∷ []) (deeper (Row r))
piece_form row (piece.Note r) = made (λ _. []) (note r)
piece_form row (piece.May near r) = maybe_form near (row r)
piece_form row (piece.Many near r) = many_form near (row r)
piece_form row (piece.Either r s) = either (row r) (row s)
piece_form row (piece.OneOf r n) = one_of row r n
piece_form row (piece.Chain r) = made (λ ts. chain ts ∷ []) (row r)
piece_form row (piece.Over h r) = made (λ ts. over h ts ∷ []) (row r)
piece_form row (piece.Level r) = level (row r)

-- pieces one behind another
abbrev pub row_form : (ℕ → TreesForm) → List Piece → TreesForm
row_form row [] = blank
row_form row (p ∷ ps) = made both_of (both (piece_form row p) (row_form row ps))

abbrev pub which : Bool → TreesForm → TreesForm → TreesForm
which true f g = f
which false f g = g

-- the row of the number, where only so many rows are looked at: those before it are what it speaks of
abbrev pub form : Table → ℕ → ℕ → TreesForm
form table zero r = never
form table (suc n) r = which (r == n) (row_form (form table n) (slice_index_or table n [])) (form table n r)

-- a row of the table
abbrev pub row_phrase : Table → ℕ → TreesForm
row_phrase table r = form table (length table) r

-- the rule of a sort: a row's trees as one
abbrev pub table_rule : Table → TableSort → Form Role TableSort Tree
table_rule table (Row r) = made single (row_phrase table r)
table_rule table (OfFiles s) = carried (marked_rule s)
table_rule table Nowhere = deeper Nowhere

-- how phrases one level down begin, where so many of them may stand at one another's front
abbrev pub fronts : Table → ℕ → TableSort → Kind → Bool
fronts table n (OfFiles s) k = heads s k
fronts table n Nowhere k = false
fronts table zero (Row r) k = false
fronts table (suc n) (Row r) k = starts (fronts table n) (row_phrase table r) k

abbrev pub table_heads : Table → TableSort → Kind → Bool
table_heads table = fronts table 8

-- what reads a phrase one level down, and a phrase, with n levels left
abbrev pub table_below : Table → ℕ → TableSort → Reader Role Tree
table_below table zero s ts = too_deep (table_heads table) s ts
table_below table (suc n) s ts = read_sort (table_heads table) (table_rule table) n s ts

abbrev pub table_reads : {A : Type 0} → Table → ℕ → Form Role TableSort A → Reader Role A
table_reads table n f ts = reads (table_heads table) (positive n) (table_below table n) f ts

-- a name, a number, and a note
abbrev pub read_name : Role → Reader Role (List Tree)
read_name r ts = read_word r ts >>= mapped named

abbrev pub read_numeral : Reader Role (List Tree)
read_numeral ts = read_number ts >>= mapped counted

abbrev pub read_told : Role → Reader Role (List Tree)
read_told r ts = read_note r ts >>= mapped (λ _. [])

-- among so many rows, it is this phrase that is read, whatever levels are left
abbrev pub Chooses : List (Bor (List Piece)) → (bound first count : ℕ) → List Sign → TreesForm → Type 0
Chooses rows bound first count ts f = (n : ℕ) → table_reads (rows_of rows) n (one_of (form (rows_of rows) bound) first count) ts ≡ table_reads (rows_of rows) n f ts
