-- What the tokens of a script say, or why they are no script. This profile's own.
use Rattle.std.specs.Prelude.{◌≡◌, ℕ, ◌+◌, ◌-◌, nat_lt, if◌then◌else◌, List, [], ◌∷◌, length, map, Some, Result, Ok, Err}
use Rattle.cv_lex.specs.Lexis.{Token}
use Rattle.cv_pool.specs.KindTree.{KindTree}
use Rattle.cv_syntax.specs.declared.work.BuildError.TheVariants.{Full, OutOfMemory}
use Rattle.cv_syntax_trees.specs.Tree.{Tree, Empty, Node}
use Rattle.cv_syntax.specs.PoolTrees.{tree_at}
use Rattle.cv_syntax.specs.limits.Limits.{nodes_of}
use Rattle.std.specs.declared.vec.Vec.{Vec}
use Rattle.std.specs.declared.alloc.Global.{Global}
use Rattle.cv_parse_tables.specs.terminals.ScriptSigns.{between, script_signs}
use Rattle.cv_parse_notation.specs.declared.sign.Sign.{Sign}
use Rattle.cv_parse_notation.specs.Reads.{Fault, Read, Reader, read_sort}
use Rattle.cv_parse_notation.specs.Reads as fault
use Rattle.cv_parse_grammar.specs.declared.role.Role.{Role}
use Rattle.cv_parse_tables.specs.Table.{Row, table_heads, table_rule}
use Rattle.cv_script.specs.declared.steps.Step.{Step}
use Rattle.cv_script.specs.rows.Rows.{script_row, script_rows}
use Rattle.cv_script.specs.declared.reader.error.ScriptError.{ScriptError}
use Rattle.cv_script.specs.declared.reader.error.ScriptError.TheVariants.{Script, Build}

-- how deep brackets and syntax nodes may stand
abbrev pub most_levels : ℕ
most_levels = 200

-- what reads a script, to where it ends
abbrev pub read_script : Reader Role Tree
read_script signs = read_sort (table_heads script_rows) (table_rule script_rows) most_levels (Row script_row) signs

-- the token at which so many are left before the end
abbrev pub of_fault : (end : ℕ) → Fault → ScriptError
of_fault end (fault.Syntax left) = Script (end - left)
of_fault end (fault.Nesting left) = Script (end - left)

-- the items of a list
abbrev pub items : Tree → List Tree
items Empty = []
items (Node h a b) = a ∷ items b

-- the steps, where a pool with so many nodes and this limit has room for them
abbrev pub with_room : (limit live : ℕ) → Tree → Result (List Tree) ScriptError
with_room limit live t = if nat_lt limit (live + nodes_of t) then Err (Build (Full (nodes_of t))) else Ok (items t)

-- a script that ends with its tokens
abbrev pub to_end : (limit live end : ℕ) → Tree → List Sign → Result (List Tree) ScriptError
to_end limit live end t [] = with_room limit live t
to_end limit live end t (s ∷ rest) = Err (Script (end - length (s ∷ rest)))

abbrev pub of_read : (limit live end : ℕ) → Read Role Tree → Result (List Tree) ScriptError
of_read limit live end (Ok x) = to_end limit live end x.value x.rest
of_read limit live end (Err f) = Err (of_fault end f)

-- The table first, then the room. No name is refused.
unfoldable pub script_of : (limit live from : ℕ) → List Sign → Result (List Tree) ScriptError
script_of limit live from signs = of_read limit live (from + length signs) (read_script signs)

-- the same of the tokens from one on, before another: names are looked up among those that are there
abbrev pub script_read : (limit live : ℕ) → List (List ℕ) → List Token → (from to : ℕ) → Result (List Tree) ScriptError
script_read limit live names tokens from to = script_of limit live from (script_signs names (between from to tokens)).signs

-- the trees of steps
abbrev pub trees_of : List KindTree → List Step → List Tree
trees_of trees steps = map (λ s. tree_at trees (Some s.0)) steps

-- memory may run out anywhere; every other error is the one that is meant
abbrev pub Refuses : {A : Type 0} → ScriptError → Result A ScriptError → Type 0
Refuses (Build OutOfMemory) r = Unit {0}
Refuses e r = r ≡ Err e

-- steps in a pool are those that are read, or the refusal is the one that is meant
abbrev pub ReadsScript : Result (List Tree) ScriptError → List KindTree → Result (Vec Step Global) ScriptError → Type 0
ReadsScript read trees (Ok steps) = read ≡ Ok (trees_of trees steps.items)
ReadsScript read trees (Err e) = Refuses e read
