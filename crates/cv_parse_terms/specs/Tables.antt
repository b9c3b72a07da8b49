-- What the rows of a table do with tokens, names and parts of trees. This profile's own.
use Rattle.std.specs.Prelude.{ℕ, zero, suc, Bool, true, false, ◌+◌, ◌-◌, ◌≤◌, ◌==◌, ◌≡◌, List, [], ◌∷◌, ◌++◌, length, map, drop, reverse, slice_index_or, replicate, Result, Ok, Err}
use Rattle.std.specs.Borrow.{Bor}
use Rattle.cv_syntax_trees.specs.declared.head.Head.{Head}
use Rattle.cv_syntax_trees.specs.declared.head.Head.TheVariants as head
use Rattle.cv_syntax.specs.declared.make.Make.{Make}
use Rattle.cv_syntax.specs.declared.make.Make.TheVariants.{Nothing, Over}
use Rattle.cv_parse_notation.specs.declared.sign.Sign.{Sign}
use Rattle.cv_parse_notation.specs.declared.sign.Mark.{Mark}
use Rattle.cv_parse_notation.specs.Spells.{Kind, Use, next_is, is_mark, is_word, is_zero, is_find}
use Rattle.cv_parse_notation.specs.Reads.{Fault, Syntax, Nesting, Read, read_sign, read_word, read_nought, read_find, read_number}
use Rattle.cv_parse_grammar.specs.declared.role.Role.{Role}
use Rattle.cv_parse_grammar.specs.Phrases.{Term, Input, Output, Body, ProcessBranch, RightRest}
use Rattle.cv_parse_grammar.specs.Rules.{heads}
use Rattle.cv_parse_terms.specs.declared.lookahead.ReadError.{ReadError}
use Rattle.cv_parse_terms.specs.declared.lookahead.ReadError.TheVariants as error
use Rattle.cv_parse_terms.specs.declared.trail.Trail.{Trail}
use Rattle.cv_parse_terms.specs.declared.piece.Ahead.{Ahead}
use Rattle.cv_parse_terms.specs.declared.piece.Ahead.TheVariants as ahead
use Rattle.cv_parse_terms.specs.declared.piece.Naming.{Naming}
use Rattle.cv_parse_terms.specs.declared.piece.Naming.TheVariants as naming
use Rattle.cv_parse_terms.specs.declared.piece.Pairing.{Pairing}
use Rattle.cv_parse_terms.specs.declared.piece.Pairing.TheVariants as pairing
use Rattle.cv_parse_terms.specs.declared.piece.Closing.{Closing}
use Rattle.cv_parse_terms.specs.declared.piece.Closing.TheVariants as closing
use Rattle.cv_parse_terms.specs.declared.piece.Piece.{Piece}
use Rattle.cv_parse_terms.specs.declared.piece.Piece.TheVariants as piece
use Rattle.cv_parse_terms.specs.Gives.{uses_of, positive, read_note}

abbrev pub Table : Type 0
Table = List (List Piece)

-- the rows of the program's table
abbrev pub rows_of : List (Bor (List Piece)) → Table
rows_of rows = map (λ r. r.now) rows

-- the names that wait for a head, the last one first, and the parts of trees
pub record Parts : Type 0 where
  pub names : List ℕ
  pub makes : List Make

-- what was made, the names that were used, and the tokens that are left
pub record Work : Type 0 where
  pub parts : Parts
  pub uses : List (Use Role)
  pub rest : List Sign

abbrev pub Step : Type 0
Step = Work → Result Work Fault

abbrev pub and_then : Result Work Fault → Step → Result Work Fault
and_then (Ok w) p = p w
and_then (Err e) p = Err e

abbrev pub chosen : Bool → Step → Step → Step
chosen true p q w = p w
chosen false p q w = q w

-- what was read, and what its value makes
abbrev pub put : {A : Type 0} → (A → Parts → Parts) → Work → Read Role A → Result Work Fault
put e w (Ok x) = Ok (record { parts = e x.value w.parts; uses = w.uses ++ x.uses; rest = x.rest })
put e w (Err f) = Err f

abbrev pub made_no_part : {A : Type 0} → A → Parts → Parts
made_no_part a q = q

-- no token
abbrev pub changed : (Parts → Parts) → Step
changed f w = Ok (record { parts = f w.parts; uses = w.uses; rest = w.rest })

-- a name waits
abbrev pub waits : ℕ → Parts → Parts
waits x q = record { names = x ∷ q.names; makes = q.makes }

abbrev pub last_name : List ℕ → ℕ
last_name [] = 0
last_name (x ∷ xs) = x

abbrev pub other_names : List ℕ → List ℕ
other_names [] = []
other_names (x ∷ xs) = xs

abbrev pub head_of : Naming → ℕ → Head
head_of naming.Leaf x = head.Leaf x
head_of naming.Primed x = head.Primed x
head_of naming.Read x = head.Read x
head_of naming.Apply x = head.Apply x
head_of naming.Name x = head.Name x
head_of naming.In x = head.In x
head_of naming.Out x = head.Out x
head_of naming.Event x = head.Event x
head_of naming.Find x = head.Find x
head_of naming.Occurs x = head.Occurs x
head_of naming.OccursOnce x = head.OccursOnce x
head_of naming.Secret x = head.Secret x
head_of naming.SecretOnce x = head.SecretOnce x
head_of naming.Oracle x = head.Oracle x
head_of naming.Equivalence x = head.Equivalence x

abbrev pub pair_of : Pairing → ℕ → ℕ → Head
pair_of pairing.Binder x y = head.Binder x y
pair_of pairing.New x y = head.New x y
pair_of pairing.Let x y = head.Let x y
pair_of pairing.Repl x y = head.Repl x y
pair_of pairing.Bound x y = head.Bound x y

abbrev pub part : Make → Parts → Parts
part m q = record { names = q.names; makes = q.makes ++ m ∷ [] }

abbrev pub named : Naming → Parts → Parts
named h q = record { names = other_names q.names; makes = q.makes ++ Over (head_of h (last_name q.names)) ∷ [] }

abbrev pub paired : Pairing → Parts → Parts
paired h q = record { names = other_names (other_names q.names); makes = q.makes ++ Over (pair_of h (last_name (other_names q.names)) (last_name q.names)) ∷ [] }

-- a name again
abbrev pub twice : List ℕ → List ℕ
twice xs = last_name xs ∷ (last_name xs ∷ other_names xs)

abbrev pub again : Parts → Parts
again q = record { names = twice q.names; makes = q.makes }

-- the two last names before the four before them, the last of which counts such pairs
abbrev pub put_before : List ℕ → List ℕ
put_before xs =
    let fours = other_names (other_names xs) in
    let threes = other_names fours in
    let twos = other_names threes in
    let ones = other_names twos in
    (last_name fours + 1) ∷ (last_name threes ∷ (last_name twos ∷ (last_name ones ∷ (last_name xs ∷ (last_name (other_names xs) ∷ other_names ones)))))

abbrev pub before : Parts → Parts
before q = record { names = put_before q.names; makes = q.makes }

-- the bounds of a function: an index and its bound, or the function's name
abbrev pub bounds_head : ℕ → ℕ → ℕ → Head
bounds_head zero x y = head.Single x
bounds_head (suc n) x y = head.Bound x y

-- the bounds, and so many empty trees, by four numbers that wait
abbrev pub bounds : Parts → Parts
bounds q =
    let threes = other_names q.names in
    let twos = other_names threes in
    let ones = other_names twos in
    record { names = other_names ones; makes = q.makes ++ Over (bounds_head (last_name threes) (last_name ones) (last_name twos)) ∷ replicate (last_name q.names) Nothing }

-- in place of the name that waits last
abbrev pub instead : ℕ → Parts → Parts
instead x q = record { names = x ∷ other_names q.names; makes = q.makes }

-- a list of so many: its end, and its nodes
abbrev pub ended : Closing → Parts → Parts
ended closing.Trees q = part Nothing q
ended closing.Binders q = part Nothing q
ended closing.Names q = part Nothing q
ended closing.Apart q = q
ended closing.Alternatives q = q

abbrev pub closer : Closing → Parts → Parts
closer closing.Trees q = part (Over head.Cons) q
closer closing.Binders q = paired pairing.Binder q
closer closing.Names q = named naming.Name q
closer closing.Apart q = q
closer closing.Alternatives q = part (Over head.SomeOf) q

-- a node for each, and of alternatives one between two of them
abbrev pub nodes_of : Closing → ℕ → ℕ
nodes_of closing.Trees n = n
nodes_of closing.Binders n = n
nodes_of closing.Names n = n
nodes_of closing.Apart n = n
nodes_of closing.Alternatives n = n - 1

abbrev pub repeated : ℕ → (Parts → Parts) → Parts → Parts
repeated zero f q = q
repeated (suc n) f q = f (repeated n f q)

abbrev pub closed : Closing → ℕ → Parts → Parts
closed c n q = repeated (nodes_of c n) (closer c) (ended c q)

-- the tokens with which it begins
abbrev pub begins : Ahead → Kind → Bool
begins (ahead.Mark m) k = is_mark m k
begins ahead.Word k = is_word k
begins ahead.Zero k = is_zero k
begins ahead.Find k = is_find k
begins ahead.Term k = heads Term k
begins ahead.Input k = heads Input k
begins ahead.Output k = heads Output k
begins ahead.Body k = heads Body k
begins ahead.Branch k = heads ProcessBranch k
begins ahead.Arguments k = heads RightRest k

-- no level is left
abbrev pub no_room : Bool → ℕ → Fault
no_room true n = Nesting n
no_room false n = Syntax n

abbrev pub refused : Ahead → Step
refused a w = Err (no_room (next_is (begins a) w.rest) (length w.rest))

-- a head of the name that waits: the first where this symbol stands, which is taken, and else the second
abbrev pub marked : Mark → Naming → Naming → Step
marked m g h w = chosen (next_is (is_mark m) w.rest) (λ v. and_then (put made_no_part v (read_sign m v.rest)) (changed (named g))) (changed (named h)) w

-- what stands behind a symbol, again and again; so many were read, and n bounds how many more
abbrev pub more : Closing → Mark → Step → ℕ → ℕ → Step
more c m p zero k w = changed (closed c k) w
more c m p (suc n) k w = chosen (next_is (is_mark m) w.rest) (λ v. and_then (and_then (put made_no_part v (read_sign m v.rest)) p) (more c m p n (k + 1))) (changed (closed c k)) w

-- what a piece makes that takes no token and speaks of no row
abbrev pub change_by : Piece → Parts → Parts
change_by (piece.Value x) q = waits x q
change_by piece.Again q = again q
change_by piece.Before q = before q
change_by piece.Bounds q = bounds q
change_by (piece.Part m) q = part m q
change_by (piece.Named h) q = named h q
change_by (piece.Paired h) q = paired h q
change_by p q = q

-- a piece that speaks of no row
abbrev pub alone : Piece → Step
alone (piece.Sign m) w = put made_no_part w (read_sign m w.rest)
alone (piece.Word r) w = put waits w (read_word r w.rest)
alone piece.Zero w = put made_no_part w (read_nought w.rest)
alone piece.Find w = put waits w (read_find w.rest)
alone piece.Instead w = put instead w (read_number w.rest)
alone (piece.Note r) w = put made_no_part w (read_note r w.rest)
alone (piece.Marked m g h) w = marked m g h w
alone p w = changed (change_by p) w

-- a piece, where room says whether a level is left, below what a row does one level down, and row what a row does
abbrev pub piece_step : Bool → (Ahead → ℕ → Step) → (ℕ → Step) → Piece → Step
piece_step room below row (piece.Row r) w = row r w
piece_step room below row (piece.Level a r) w = chosen room (row r) (refused a) w
piece_step room below row (piece.Deeper a r) w = below a r w
piece_step room below row (piece.Choice a r s) w = chosen (next_is (begins a) w.rest) (row r) (row s) w
piece_step room below row (piece.List c m r) w = and_then (row r w) (λ v. more c m (row r) (length v.rest) 1 v)
piece_step room below row (piece.Many c m r) w = more c m (row r) (length w.rest) 0 w
piece_step room below row p w = alone p w

-- pieces one behind another
abbrev pub pieces_step : (Piece → Step) → List Piece → Step
pieces_step one [] w = Ok w
pieces_step one (p ∷ ps) w = and_then (one p w) (pieces_step one ps)

-- the row of the number, where only so many rows are looked at: those before it are what it speaks of
abbrev pub row_step : Bool → (Ahead → ℕ → Step) → Table → ℕ → ℕ → Step
row_step room below table zero r w = Err (Syntax (length w.rest))
row_step room below table (suc n) r w = chosen (r == n) (pieces_step (piece_step room below (row_step room below table n)) (slice_index_or table n [])) (row_step room below table n r) w

-- a row one level down, with so many levels left
abbrev pub below_step : Table → ℕ → Ahead → ℕ → Step
below_step table zero a r w = refused a w
below_step table (suc n) a r w = row_step (positive n) (below_step table n) table (length table) r w

-- a row of the first so many, a piece and pieces over them, with n levels left
abbrev pub row_in : Table → ℕ → ℕ → ℕ → Step
row_in table n bound r w = row_step (positive n) (below_step table n) table bound r w

abbrev pub piece_in : Table → ℕ → ℕ → Piece → Step
piece_in table n bound p w = piece_step (positive n) (below_step table n) (row_in table n bound) p w

abbrev pub pieces_in : Table → ℕ → ℕ → List Piece → Step
pieces_in table n bound ps w = pieces_step (piece_in table n bound) ps w

-- what the code has in its hands

abbrev pub parts_of : Trail → List ℕ → Parts
parts_of t names = record { names = reverse names; makes = t.makes.items }

abbrev pub work_of : Trail → List ℕ → List Sign → Work
work_of t names ts = record { parts = parts_of t names; uses = uses_of t.uses.items; rest = ts }

-- The error is the fault, at its place among all tokens; memory may run out anywhere.
abbrev pub Stops : List Sign → ReadError → Result Work Fault → Type 0
Stops all (error.Syntax k) r = (k ≤ length all) × (r ≡ Err (Syntax (length all - k)))
Stops all (error.Nesting k) r = (k ≤ length all) × (r ≡ Err (Nesting (length all - k)))
Stops all error.OutOfMemory r = Unit {0}

-- what was to be done was done, up to a place
abbrev pub Runs : List Sign → Result ℕ ReadError → Trail → List ℕ → Result Work Fault → Type 0
Runs all (Ok end) t names r = (end ≤ length all) × (r ≡ Ok (work_of t names (drop end all)))
Runs all (Err e) t names r = Stops all e r
