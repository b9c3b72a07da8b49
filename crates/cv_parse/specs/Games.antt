-- What the tokens of a game say, by names and declarations that are there, or why they are no game. This profile's own.
use Rattle.std.specs.Prelude.{◌≡◌, ℕ, suc, ◌+◌, nat_lt, if◌then◌else◌, List, [], ◌∷◌, ◌++◌, flat_map, length, Option, Some, None, Result, Ok, Err}
use Rattle.cv_lex.specs.Lexis.{Token}
use Rattle.cv_pool.specs.KindTree.{KindTree}
use Rattle.cv_syntax_trees.specs.declared.class.Class.{Class}
use Rattle.cv_syntax_trees.specs.declared.class.Class.TheVariants as class
use Rattle.cv_syntax.specs.declared.decls.Decl.{Decl}
use Rattle.cv_syntax.specs.declared.decls.Decl.TheVariants as decl
use Rattle.cv_syntax.specs.declared.work.BuildError.TheVariants.{Full}
use Rattle.cv_syntax.specs.declared.work.Game.{Game}
use Rattle.cv_syntax_trees.specs.Tree.{Tree, Empty, Node}
use Rattle.cv_syntax.specs.PoolTrees.{tree_at}
use Rattle.cv_parse_tables.specs.terminals.Signs.{no_counts, signs_from}
use Rattle.cv_parse_notation.specs.declared.sign.Sign.{Sign}
use Rattle.cv_parse_notation.specs.Reads.{Read}
use Rattle.cv_parse_notation.specs.Whole.{reads_whole}
use Rattle.cv_parse_grammar.specs.declared.role.Asked.{Asked}
use Rattle.cv_parse_grammar.specs.declared.role.Asked.TheVariants.{AParam, AChannel, AFunction, AnEvent, AProbability, AnEquivalence, AType}
use Rattle.cv_parse_grammar.specs.declared.role.Region.TheVariants.{InProcess}
use Rattle.cv_parse_grammar.specs.declared.role.Role.{Role}
use Rattle.cv_parse_grammar.specs.declared.role.Role.TheVariants.{Declares}
use Rattle.cv_parse_grammar.specs.Files.{levels}
use Rattle.cv_parse_grammar.specs.Names.{NameFault, Uses, name_fault}
use Rattle.cv_parse_grammar.specs.Phrases.{Phrase, inside}
use Rattle.cv_parse_grammar.specs.Processes.{inputs}
use Rattle.cv_parse_grammar.specs.Rules.{heads, rule}
use Rattle.cv_parse.specs.declared.error.ParseError.{ParseError}
use Rattle.cv_parse.specs.declared.error.ParseError.TheVariants.{Build}
use Rattle.cv_parse.specs.Parsed.{Refuses, of_fault, of_name, sized}

-- a game is written as the process of a file, without the word before it
abbrev pub process : Phrase Tree
process = inside InProcess inputs

-- a game and nothing behind it
abbrev pub read_process : List Sign → Read Role Tree
read_process signs = reads_whole heads rule process levels signs

-- what a name of a class is declared as
abbrev pub asked_by : Class → Option Asked
asked_by class.Param = Some AParam
asked_by (class.TypeName fixed large) = Some AType
asked_by class.Channel = Some AChannel
asked_by (class.Fun data_like) = Some AFunction
asked_by class.Event = Some AnEvent
asked_by class.Proba = Some AProbability
asked_by class.Equiv = Some AnEquivalence
asked_by class.Free = None

-- a use of a name that declares it before the text
abbrev pub declared_as : Option Asked → ℕ → Uses
declared_as None x = []
declared_as (Some a) x = record { role = Declares a; name = x; left = 0 } ∷ []

abbrev pub declared_by : Decl → Uses
declared_by (decl.Name id class args result) = declared_as (asked_by class) id.0
declared_by (decl.Equation n) = []
declared_by (decl.Equiv id n) = declared_as (Some AnEquivalence) id.0
declared_by (decl.Query n) = []

-- What is declared counts as declared before the game.
abbrev pub declared_before : List Decl → Uses
declared_before ds = flat_map declared_by ds

-- how many nodes of a pool a tree takes
unfoldable pub nodes_of : Tree → ℕ
nodes_of Empty = 0
nodes_of (Node h a b) = suc (nodes_of a + nodes_of b)

-- a pool with so many nodes and this limit has room for the tree
abbrev pub roomed : (limit live : ℕ) → Tree → Result Tree ParseError
roomed limit live t = if nat_lt limit (live + nodes_of t) then Err (Build (Full (nodes_of t))) else Ok t

abbrev pub sized_first : (limit live : ℕ) → Tree → Result (Unit {0}) ParseError → Result Tree ParseError
sized_first limit live t (Ok u) = roomed limit live t
sized_first limit live t (Err e) = Err e

abbrev pub unless : (limit live n : ℕ) → Option NameFault → Tree → Result Tree ParseError
unless limit live n None t = sized_first limit live t (sized t)
unless limit live n (Some f) t = Err (of_name n f)

abbrev pub of_reading : (limit live n : ℕ) → Uses → Read Role Tree → Result Tree ParseError
of_reading limit live n before (Ok x) = unless limit live n (name_fault (before ++ x.uses)) x.value
of_reading limit live n before (Err f) = Err (of_fault n f)

-- The grammar first, then the rules of names, then the limits. Nothing is filled in: a bare name stays one.
unfoldable pub game_of : (limit live : ℕ) → List Decl → List Sign → Result Tree ParseError
game_of limit live ds signs = of_reading limit live (length signs) (declared_before ds) (read_process signs)

-- the names of the tokens are looked up among those that are there, and new ones are put behind them
abbrev pub game_read : (limit live : ℕ) → List (List ℕ) → List Decl → List Token → Result Tree ParseError
game_read limit live names ds tokens = game_of limit live ds (signs_from names no_counts tokens).signs

-- a game in a pool is the one that is read, or the refusal is the one that is meant; memory may run out anywhere
abbrev pub ReadsGame : Result Tree ParseError → List KindTree → Result Game ParseError → Type 0
ReadsGame read trees (Ok g) = read ≡ Ok (tree_at trees (Some g.root))
ReadsGame read trees (Err e) = Refuses e read
