-- Files, and what is asked of one so that the text of its game is read back. This profile's own.
use Rattle.std.specs.Prelude.{◌≡◌, ℕ, ◌+◌, ◌≤◌, ◌<◌, ◌^◌, List, length, ◌++◌, None, Ok}
use Rattle.cv_lex.specs.Lexis.{Lexed, Token}
use Rattle.cv_pool.specs.KindTree.{KindTree}
use Rattle.cv_syntax.specs.declared.decls.Decl.{Decl}
use Rattle.cv_syntax.specs.Declarations.{declarations}
use Rattle.cv_syntax_trees.specs.Tree.{Tree, depth}
use Rattle.cv_parse_tables.specs.terminals.Signs.{signs_of}
use Rattle.cv_parse_grammar.specs.Files.{levels}
use Rattle.cv_parse_grammar.specs.Names.{name_fault}
use Rattle.cv_parse.specs.Games.{declared_before, nodes_of}
use Rattle.cv_parse.specs.Parsed.{Parsed}
use Rattle.cv_parse.specs.Says.{Says}
use Rattle.cv_print_bytes.specs.terminals.Levels.{levels_of}
use Rattle.cv_print_back.specs.Texts.{IsGameBack, told_of}

-- These bytes are a file that says this, with these names, in a pool with such a limit.
pub record IsFileText (limit : ℕ) (bytes : List ℕ) (names : List (List ℕ)) (p : Parsed) : Type 0 where
  pub tokens : List Token
  pub lexed : Lexed 0 bytes (Ok tokens)
  pub says : Says limit (signs_of tokens).signs p
  pub names_are : names ≡ (signs_of tokens).names
  pub short : length bytes < 2 ^ 64

-- The declarations of the code, over a pool's trees, are those of the file.
abbrev pub Declares : List KindTree → List Decl → Parsed → Type 0
Declares trees ds p = declarations trees ds ≡ p.declarations

-- so it is for every file, with its names, its declarations in the code, and what it says
abbrev pub ForEachFile : (List (List ℕ) → List Decl → Parsed → Type 0) → Type 0
ForEachFile Q =
    (limit : ℕ) (bytes : List ℕ) (names : List (List ℕ)) (p : Parsed) (trees : List KindTree) (ds : List Decl) →
    IsFileText limit bytes names p → Declares trees ds p → Q names ds p

-- The names of the game obey their rules behind what is declared.
abbrev pub NamesObey : List Decl → Tree → Type 0
NamesObey ds t = name_fault (declared_before ds ++ told_of t) ≡ None

-- The text of the game is read back as the game, into a pool that has room for it.
abbrev pub ComesBack : List (List ℕ) → List Decl → Tree → Type 0
ComesBack names ds t = (limit live : ℕ) → live + nodes_of t ≤ limit → IsGameBack limit live names ds t

-- The brackets and syntax nodes of the text stand no deeper than those of a file may.
abbrev pub IsFlat : Tree → Type 0
IsFlat t = levels_of t ≤ levels

-- The game is less than half as deep as a game may be.
abbrev pub IsShallow : Tree → Type 0
IsShallow t = depth t ≤ 99
