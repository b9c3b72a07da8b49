-- The tree of a script, whatever room there is, and how many nodes steps take in a pool.
use Rattle.std.specs.Prelude.{ℕ, ◌+◌, ◌-◌, List, [], ◌∷◌, length, Result, Ok, Err}
use Rattle.cv_lex.specs.Lexis.{Token}
use Rattle.cv_syntax_trees.specs.Tree.{Tree}
use Rattle.cv_parse_tables.specs.terminals.ScriptSigns.{between, script_signs}
use Rattle.cv_parse_notation.specs.declared.sign.Sign.{Sign}
use Rattle.cv_parse_notation.specs.Reads.{Read}
use Rattle.cv_parse_grammar.specs.declared.role.Role.{Role}
use Rattle.cv_script.specs.declared.reader.error.ScriptError.{ScriptError}
use Rattle.cv_script.specs.declared.reader.error.ScriptError.TheVariants.{Script}
use Rattle.cv_script.specs.reader.Scripts.{of_fault, read_script, with_room}
use Rattle.cv_syntax.specs.limits.Limits.{nodes_of}

-- a script that ends with its tokens
abbrev pub whole : (end : ℕ) → Tree → List Sign → Result Tree ScriptError
whole end t [] = Ok t
whole end t (s ∷ rest) = Err (Script (end - length (s ∷ rest)))

abbrev pub of_whole : (end : ℕ) → Read Role Tree → Result Tree ScriptError
of_whole end (Ok x) = whole end x.value x.rest
of_whole end (Err f) = Err (of_fault end f)

-- what signs that begin at a token read as
abbrev pub script_tree : (from : ℕ) → List Sign → Result Tree ScriptError
script_tree from signs = of_whole (from + length signs) (read_script signs)

-- the same of the tokens from one on, before another: names are looked up among those that are there
abbrev pub tree_read : List (List ℕ) → List Token → (from to : ℕ) → Result Tree ScriptError
tree_read names tokens from to = script_tree from (script_signs names (between from to tokens)).signs

-- its steps, where a pool has room for them
abbrev pub in_room : (limit live : ℕ) → Result Tree ScriptError → Result (List Tree) ScriptError
in_room limit live (Ok t) = with_room limit live t
in_room limit live (Err e) = Err e

-- how many nodes of a pool a list of steps takes, each with its place in the list
abbrev pub script_nodes : List Tree → ℕ
script_nodes [] = 0
script_nodes (t ∷ ts) = nodes_of t + script_nodes ts + 1
