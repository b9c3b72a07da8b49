-- What a file says, and what it is refused for.
use Rattle.std.specs.Prelude.{◌≡◌, ℕ, List, [], ◌∷◌, Option, Some, None, Result, Ok, Err}
use Rattle.cv_syntax_trees.specs.Declarations.{Declaration}
use Rattle.cv_syntax_trees.specs.Tree.{Tree}
use Rattle.cv_parse_notation.specs.declared.sign.Sign.{Sign}
use Rattle.cv_parse_notation.specs.Spells.{Use}
use Rattle.cv_parse_notation.specs.Reads.{Fault, Read}
use Rattle.cv_parse_grammar.specs.declared.role.Asked.TheVariants.{AType}
use Rattle.cv_parse_grammar.specs.declared.role.Role.{Role}
use Rattle.cv_parse_grammar.specs.declared.role.Role.TheVariants.{Declares}
use Rattle.cv_parse_grammar.specs.Filled.{filled}
use Rattle.cv_parse_grammar.specs.Files.{levels, IsFile, read_whole}
use Rattle.cv_parse_grammar.specs.Names.{NameFault, AreNamed, IsNameFault, name_fault}
use Rattle.cv_parse_grammar.specs.Rules.{File}

-- `bool` is declared as a type before all that a file declares
abbrev pub built_in : Use Role
built_in = record { role = Declares AType; name = 0; left = 0 }

-- The tokens spell a file within 200 levels, its names obey their rules, and its process stands for the game.
pub record IsRead (tokens : List Sign) (decls : List Declaration) (script : Option (ℕ × ℕ)) (game : Tree) : Type 0 where
  pub text : Tree
  pub uses : List (Use Role)
  pub spelled : IsFile levels tokens (record { decls = decls; script = script; game = text }) uses []
  pub named : AreNamed (built_in ∷ uses)
  pub stands_for : filled text ≡ game

-- The tokens spell a file within 200 levels, and this is the first fault of its names.
pub record IsMisnamed (tokens : List Sign) (f : NameFault) : Type 0 where
  pub file : File
  pub uses : List (Use Role)
  pub spelled : IsFile levels tokens file uses []
  pub fault : IsNameFault (built_in ∷ uses) f

-- the same, computed

abbrev pub Content : Type 0
Content = List Declaration × (Option (ℕ × ℕ) × Tree)

pub data Refusal : Type 0 where
  Unread : Fault → Refusal
  Misnamed : NameFault → Refusal

abbrev pub content_of : File → Content
content_of f = (f.decls, (f.script, filled f.game))

abbrev pub unless : Option NameFault → File → Result Content Refusal
unless None f = Ok (content_of f)
unless (Some e) f = Err (Misnamed e)

abbrev pub outcome_of : Read Role File → Result Content Refusal
outcome_of (Ok x) = unless (name_fault (built_in ∷ x.uses)) x.value
outcome_of (Err e) = Err (Unread e)

abbrev pub outcome : List Sign → Result Content Refusal
outcome tokens = outcome_of (read_whole levels tokens)
