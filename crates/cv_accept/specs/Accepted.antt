-- Files: what they hold, and which bytes are one.
use Rattle.std.specs.Prelude.{◌≡◌, ℕ, ◌+◌, ◌<◌, min, List, length, Option, Some, None, option_map, Result, Ok, Err}
use Rattle.cv_lex.specs.Lexis.{Token}
use Rattle.cv_library.specs.Givens.{AreGiven, Given, tokens_given}
use Rattle.cv_library.specs.declared.error.GivenError.{GivenError}
use Rattle.cv_library.specs.declared.error.GivenError.TheVariants as fault
use Rattle.cv_oracles.specs.Translations.{number_in, read_as}
use Rattle.cv_parse_tables.specs.terminals.ScriptSigns.{between, script_signs}
use Rattle.cv_parse_tables.specs.terminals.Signs.{signs_of}
use Rattle.cv_script.specs.declared.reader.error.ScriptError.{ScriptError}
use Rattle.cv_script.specs.declared.reader.error.ScriptError.TheVariants as script
use Rattle.cv_script.specs.reader.Scripts.{items}
use Rattle.cv_syntax.specs.limits.Limits.{nodes_of}
use Rattle.cv_script.specs.reader.Trees.{tree_read}
use Rattle.cv_syntax_trees.specs.Declarations.{Declaration}
use Rattle.cv_syntax_trees.specs.Tree.{Tree}
use Rattle.cv_parse.specs.declared.error.ParseError.{ParseError}
use Rattle.cv_parse.specs.Nodes.{file_nodes}
use Rattle.cv_parse.specs.Parsed.{Parsed, parsed}
use Rattle.cv_parse.specs.Says.{Says}
use Rattle.cv_scope_rules.specs.declared.typing.fault.Fault.{Fault}
use Rattle.cv_scope_rules.specs.typing.Parts.{IsTypedFile, file_parts, first_in}
use Rattle.cv_scope_rules.specs.typing.Refusals.{refusal}
use Rattle.cv_scope_rules.specs.declared.fault.Fault.{Fault as ScopeRules}
use Rattle.cv_scope_rules.specs.Refusals.{refusal as scope_refusal}
use Rattle.cv_scope_rules.specs.Scope.{IsScoped, first_scope_fault}
use Rattle.cv_group.specs.Refusals.{refused_by}
use Rattle.cv_group_rules.specs.Symbols.{symbols_of}
use Rattle.cv_group_rules.specs.Faults.{AreAccepted, GroupRule, equivalences_in, first_group_fault}
use Rattle.cv_meaning.specs.Queries.{queries_in}
use Rattle.cv_query_form.specs.Rules.{AreAsked}
use Rattle.cv_query_form.specs.Tests.{first_refused}
use Rattle.cv_accept.specs.declared.error.FileError.{FileError}
use Rattle.cv_accept.specs.declared.error.FileError.TheVariants.{Lex, LibraryLex, Library, Expand, Tokens, Parse, Script, Types, Scope, Group, Query, Room, OutOfMemory}
use Rattle.cv_accept.specs.Numbers.{told_by}
use Rattle.cv_accept.specs.Places.{behind, nodes_before}

-- the most bytes of a file
abbrev pub most_bytes : ℕ
most_bytes = 1048576

-- the most nodes of a pool
abbrev pub most_pool : ℕ
most_pool = 16000000

-- what a file holds: its names, behind them those of its proof block, what it declares, its game, and the steps of the block,
-- where it has one
pub record Content : Type 0 where
  pub names : List (List ℕ)
  pub own : ℕ  -- how many names are the file's
  pub declarations : List Declaration
  pub game : Tree
  pub script : Option (List Tree)

-- proof blocks: a block is given by the number of its first token and that of its last brace, and has no token where the brace
-- doesn't stand behind

abbrev pub there : Result Tree ScriptError → Result (Option Tree) ScriptError
there (Ok t) = Ok (Some t)
there (Err e) = Err e

-- the tree of a block behind these names, where there is one
abbrev pub block_by : List Token → List (List ℕ) → Option (ℕ × ℕ) → Result (Option Tree) ScriptError
block_by ts names None = Ok None
block_by ts names (Some b) = there (tree_read names ts (min b.0 b.1) b.1)

-- the names with those of a block behind them
abbrev pub names_by : List Token → List (List ℕ) → Option (ℕ × ℕ) → List (List ℕ)
names_by ts names None = names
names_by ts names (Some b) = (script_signs names (between (min b.0 b.1) b.1 ts)).names

-- the tree of the proof block of a file, whatever room there is
abbrev pub block_of : List Token → Parsed → Result (Option Tree) ScriptError
block_of ts p = block_by ts (signs_of ts).names p.script

abbrev pub content_of : List Token → Parsed → Option Tree → Content
content_of ts p block = record {
  names = names_by ts (signs_of ts).names p.script;
  own = length (signs_of ts).names;
  declarations = p.declarations;
  game = p.game;
  script = option_map items block;
}

-- These tokens are read: those that are given, or, where these are an oracle file, those of the file for which it stands.
pub record AreRead (given : Given) (tokens : List Token) : Type 0 where
  pub source : List Token
  pub lexed : AreGiven given source
  pub stand : tokens ≡ read_as source

-- the same, computed
abbrev pub read_by : Result (List Token) GivenError → Result (List Token) GivenError
read_by (Ok ts) = Ok (read_as ts)
read_by (Err e) = Err e

abbrev pub tokens_read : Given → Result (List Token) GivenError
tokens_read given = read_by (tokens_given given)

-- What is given is a file that holds this, in a pool with such a limit: with a proof block that is a script, if it has one, typed,
-- in scope, with equivalences that are accepted and queries that may be asked.
pub record IsFile (limit : ℕ) (given : Given) (f : Content) : Type 0 where
  pub tokens : List Token
  pub said : Parsed
  pub lexed : AreRead given tokens
  pub says : Says limit (signs_of tokens).signs said
  pub script : Option Tree
  pub block : block_of tokens said ≡ Ok script
  pub typed : IsTypedFile said.declarations said.game
  pub scoped : IsScoped said.declarations said.game
  pub groups : AreAccepted (symbols_of said.declarations) (equivalences_in said.declarations)
  pub asked : AreAsked said.game (queries_in said.declarations)
  pub content : f ≡ content_of tokens said script

-- These tokens are those of a file whose proof block has steps for whose nodes a pool with all nodes of the file has no room.
pub record LacksRoom (limit : ℕ) (tokens : List Token) (need : ℕ) : Type 0 where
  pub said : Parsed
  pub says : Says limit (signs_of tokens).signs said
  pub script : Tree
  pub block : block_of tokens said ≡ Ok (Some script)
  pub asked : need ≡ nodes_of script
  pub over : limit < file_nodes said.declarations said.game + need

-- The tokens that are read are such ones.
pub record IsFull (limit : ℕ) (given : Given) (need : ℕ) : Type 0 where
  pub tokens : List Token
  pub lexed : tokens_read given ≡ Ok tokens
  pub lacks : LacksRoom limit tokens need

-- the same, computed, with what it is refused for

-- the first fault of the scope of a game, by its place in the file
abbrev pub scope_fault : Parsed → Option (ℕ × ScopeRules)
scope_fault p = behind (nodes_before p.declarations) (first_scope_fault p.declarations p.game)

-- the number of the first query that may not be asked
abbrev pub query_fault : Parsed → Option ℕ
query_fault p = first_refused p.game (queries_in p.declarations)

-- the number of the first equivalence that is not accepted, with the first rule that it breaks
abbrev pub group_fault : Parsed → Option (ℕ × GroupRule)
group_fault p = first_group_fault (symbols_of p.declarations) (equivalences_in p.declarations)

abbrev pub of_queries : Content → Option ℕ → Result Content FileError
of_queries f None = Ok f
of_queries f (Some k) = Err (Query k)

abbrev pub of_groups : Content → Parsed → Option (ℕ × GroupRule) → Result Content FileError
of_groups f p None = of_queries f (query_fault p)
of_groups f p (Some (k, rule)) = Err (Group k (refused_by rule))

abbrev pub of_scopes : Content → Parsed → Option (ℕ × ScopeRules) → Result Content FileError
of_scopes f p None = of_groups f p (group_fault p)
of_scopes f p (Some (place, fault)) = Err (Scope (scope_refusal place fault))

abbrev pub of_types : Content → Parsed → Option (ℕ × Fault) → Result Content FileError
of_types f p None = of_scopes f p (scope_fault p)
of_types f p (Some (place, fault)) = Err (Types (refusal place fault))

-- the first fault of the terms of a file
abbrev pub type_fault : Parsed → Option (ℕ × Fault)
type_fault p = first_in p.declarations 0 (file_parts p.declarations p.game)

-- why a file is refused whose proof block is no script; reading its tree asks for no room
abbrev pub of_block : ScriptError → FileError
of_block (script.Script token) = Script token
of_block (script.Build e) = OutOfMemory

abbrev pub of_script : List Token → Parsed → Result (Option Tree) ScriptError → Result Content FileError
of_script ts p (Ok block) = of_types (content_of ts p block) p (type_fault p)
of_script ts p (Err e) = Err (of_block e)

abbrev pub of_parsed : List Token → Result Parsed ParseError → Result Content FileError
of_parsed ts (Ok p) = of_script ts p (block_of ts p)
of_parsed ts (Err e) = Err (Parse e)

-- why a file is refused that has no tokens
abbrev pub of_given : GivenError → FileError
of_given (fault.Lex e) = Lex e
of_given (fault.LibraryLex e) = LibraryLex e
of_given (fault.Library e) = Library e
of_given (fault.Expand e) = Expand e
of_given (fault.Tokens count) = Tokens count
of_given fault.OutOfMemory = OutOfMemory

-- what these tokens say: their proof block, types, scope, equivalences and queries
unfoldable pub file_of : (limit : ℕ) → List Token → Result Content FileError
file_of limit ts = of_parsed ts (parsed limit (signs_of ts).signs)

-- the number of a token is its number in what is given
abbrev pub of_tokens : ℕ → Result (List Token) GivenError → Result Content FileError
of_tokens limit (Ok ts) = told_by (number_in ts) (file_of limit (read_as ts))
of_tokens limit (Err e) = Err (of_given e)

-- Its tokens first, then what those that are read say.
unfoldable pub read_of : (limit : ℕ) → Given → Result Content FileError
read_of limit given = of_tokens limit (tokens_given given)

-- Memory may run out anywhere, and a pool may have no room for a proof block; every other error is the one that is meant.
abbrev pub Refuses : (limit : ℕ) → Given → FileError → Type 0
Refuses limit given OutOfMemory = Unit {0}
Refuses limit given (Room need) = IsFull limit given need
Refuses limit given e = read_of limit given ≡ Err e

-- the same of tokens that are read
abbrev pub RefusesTokens : (limit : ℕ) → List Token → FileError → Type 0
RefusesTokens limit ts OutOfMemory = Unit {0}
RefusesTokens limit ts (Room need) = LacksRoom limit ts need
RefusesTokens limit ts e = file_of limit ts ≡ Err e
