-- Which games and terms are read back from their text, and what comes of it. This profile's own.
use Rattle.std.specs.Prelude.{◌≡◌, ℕ, ◌+◌, ◌≤◌, true, List, [], ◌∷◌, ◌++◌, length, None, Ok}
use Rattle.cv_lex.specs.Lexis.{Token, tokens_of}
use Rattle.cv_syntax.specs.declared.decls.Decl.{Decl}
use Rattle.cv_syntax_trees.specs.Tree.{Tree, depth, size}
use Rattle.cv_parse_tables.specs.terminals.Signs.{no_counts, signs_from}
use Rattle.cv_parse_grammar.specs.declared.role.Region.TheVariants.{InProcess}
use Rattle.cv_parse_grammar.specs.declared.role.Role.TheVariants.{Enters, Leaves}
use Rattle.cv_parse_grammar.specs.Files.{levels}
use Rattle.cv_parse_grammar.specs.Names.{Uses, name_fault}
use Rattle.cv_scope_rules.specs.Phrases.{Inputs, Term}
use Rattle.cv_print.specs.Games.{game_text}
use Rattle.cv_print.specs.Terms.{term_text}
use Rattle.cv_print_bytes.specs.terminals.Levels.{levels_of, term_levels}
use Rattle.cv_print_bytes.specs.terminals.Signs.{game_signs, term_signs}
use Rattle.cv_print_bytes.specs.terminals.Told.{game_uses}
use Rattle.cv_print_bytes.specs.terminals.Written.{IsWritten}
use Rattle.cv_print_bytes.specs.Known.{AreNames, is_named}
use Rattle.cv_syntax.specs.limits.Limits.{most_depth, most_nodes}
use Rattle.cv_parse.specs.Games.{declared_before, game_read, nodes_of}
use Rattle.cv_parse.specs.Terms.{names_behind, term_read}

-- what is told about names in the text of a game, from its beginning to its end
abbrev pub told_of : Tree → Uses
told_of t = record { role = Enters InProcess; name = 0; left = length (game_signs t) } ∷ (game_uses t 0 ++ record { role = Leaves; name = 0; left = 0 } ∷ [])

-- A written game with known names, which obey the rules of names behind what is declared, within the limits.
pub record IsProperGame (limit live : ℕ) (names : List (List ℕ)) (ds : List Decl) (t : Tree) : Type 0 where
  pub known : AreNames names
  pub named : is_named (length names) t ≡ true
  pub written : IsWritten Inputs t
  pub flat : levels_of t ≤ levels
  pub obeys : name_fault (declared_before ds ++ told_of t) ≡ None
  pub small : size t ≤ most_nodes
  pub shallow : depth t ≤ most_depth
  pub room : live + nodes_of t ≤ limit

-- Its text has tokens, which are read as the game; no name is new.
pub record IsGameBack (limit live : ℕ) (names : List (List ℕ)) (ds : List Decl) (t : Tree) : Type 0 where
  pub tokens : List Token
  pub lexed : tokens_of (game_text names t) ≡ Ok tokens
  pub read : game_read limit live names ds tokens ≡ Ok t
  pub same : (signs_from names no_counts tokens).names ≡ names

-- a written term with known names, within the limits
pub record IsProperTerm (limit live : ℕ) (names : List (List ℕ)) (t : Tree) : Type 0 where
  pub known : AreNames names
  pub named : is_named (length names) t ≡ true
  pub written : IsWritten Term t
  pub flat : term_levels t ≤ levels
  pub room : live + nodes_of t ≤ limit

-- Its text has tokens, which are read as the term up to the end token; no name is new.
pub record IsTermBack (limit live : ℕ) (names : List (List ℕ)) (t : Tree) : Type 0 where
  pub tokens : List Token
  pub lexed : tokens_of (term_text names t) ≡ Ok tokens
  pub read : term_read limit live names tokens 0 ≡ Ok (t, length (term_signs t))
  pub same : names_behind names tokens 0 (length (term_signs t)) ≡ names
