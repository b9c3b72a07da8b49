-- What a reader of declarations, one after another, gives. This profile's own.
use Rattle.std.specs.Prelude.{ℕ, ◌≡◌, List, ◌++◌, map, flat_map, Result, Ok, Err}
use Rattle.std.specs.List.{AllByRecursion}
use Rattle.cv_syntax_trees.specs.Declarations.{Declaration}
use Rattle.cv_parse_notation.specs.declared.sign.Sign.{Sign}
use Rattle.cv_parse_notation.specs.Reads.{Read}
use Rattle.cv_parse_grammar.specs.declared.role.Role.{Role}
use Rattle.cv_parse_terms.specs.declared.trail.Trail.{Trail}
use Rattle.cv_parse_terms.specs.declared.lookahead.ReadError.{ReadError}
use Rattle.cv_parse_terms.specs.Gives.{Fails, IsRead}
use Rattle.cv_parse_declarations.specs.declared.signature.heard.Heard.{Heard}
use Rattle.cv_parse_declarations.specs.signature.Declares.{IsWhole, heard_of, parts_of}

abbrev pub joined : List (List Declaration) → List Declaration
joined l = flat_map (λ ds. ds) l

-- Lists of declarations were read; they were heard, and their trees were made.
pub record AreDeclared (all : List Sign) (old new : Trail) (before after : List Heard) (reading : Read Role (List (List Declaration))) (end : ℕ) : Type 0 where
  pub value : List (List Declaration)
  pub read : IsRead all old.uses.items new.uses.items reading value end
  pub heard : after ≡ before ++ map heard_of (joined value)
  pub makes : new.makes.items ≡ old.makes.items ++ flat_map parts_of (joined value)
  pub whole : AllByRecursion IsWhole (joined value)

abbrev pub DeclareAll : List Sign → Trail → Trail → List Heard → List Heard → Result ℕ ReadError → Read Role (List (List Declaration)) → Type 0
DeclareAll all old new before after (Ok end) read = AreDeclared all old new before after read end
DeclareAll all old new before after (Err e) read = Fails all e read
