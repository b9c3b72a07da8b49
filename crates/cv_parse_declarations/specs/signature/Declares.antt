-- What a reader of declarations gives. This profile's own.
use Rattle.std.specs.Prelude.{ℕ, ◌≡◌, ◌≢◌, Bool, true, false, List, ◌++◌, map, flat_map, Result, Ok, Err}
use Rattle.std.specs.List.{AllByRecursion}
use Rattle.cv_syntax_trees.specs.Tree.{Tree, Empty}
use Rattle.cv_syntax.specs.Postorder.{postorder}
use Rattle.cv_syntax_trees.specs.declared.class.Class.{Class}
use Rattle.cv_syntax_trees.specs.declared.class.Class.TheVariants as class
use Rattle.cv_syntax_trees.specs.Declarations.{Declaration, Named, Equation, Equiv, Query}
use Rattle.cv_syntax.specs.declared.make.Make.{Make}
use Rattle.cv_parse_notation.specs.declared.sign.Sign.{Sign}
use Rattle.cv_parse_notation.specs.Reads.{Read}
use Rattle.cv_parse_grammar.specs.declared.role.Role.{Role}
use Rattle.cv_parse_terms.specs.declared.trail.Trail.{Trail}
use Rattle.cv_parse_terms.specs.declared.lookahead.ReadError.{ReadError}
use Rattle.cv_parse_terms.specs.Gives.{Fails, IsRead}
use Rattle.cv_parse_declarations.specs.declared.signature.heard.Heard.{Heard}
use Rattle.cv_parse_declarations.specs.declared.signature.heard.Heard.TheVariants as heard

-- what is heard of a declaration as it is read
abbrev pub heard_of : Declaration → Heard
heard_of (Named id class arguments result) = heard.Named id class result
heard_of (Equation t) = heard.Equation
heard_of (Equiv id t) = heard.Equiv id
heard_of (Query t) = heard.Query

abbrev pub tree_in : Declaration → Tree
tree_in (Named id class arguments result) = arguments
tree_in (Equation t) = t
tree_in (Equiv id t) = t
tree_in (Query t) = t

abbrev pub parts_of : Declaration → List Make
parts_of d = postorder (tree_in d)

-- a class that a declared name may have
abbrev pub is_of_name : Class → Bool
is_of_name class.Free = false
is_of_name class.Equiv = false
is_of_name c = true

-- a name of such a class, or a tree that is there
abbrev pub IsWhole : Declaration → Type 0
IsWhole (Named id class arguments result) = is_of_name class ≡ true
IsWhole (Equation t) = t ≢ Empty
IsWhole (Equiv id t) = t ≢ Empty
IsWhole (Query t) = t ≢ Empty

-- Declarations were read; they were heard, and their trees were made.
pub record IsDeclared (all : List Sign) (old new : Trail) (before after : List Heard) (reading : Read Role (List Declaration)) (end : ℕ) : Type 0 where
  pub value : List Declaration
  pub read : IsRead all old.uses.items new.uses.items reading value end
  pub heard : after ≡ before ++ map heard_of value
  pub makes : new.makes.items ≡ old.makes.items ++ flat_map parts_of value
  pub whole : AllByRecursion IsWhole value

abbrev pub Declares : List Sign → Trail → Trail → List Heard → List Heard → Result ℕ ReadError → Read Role (List Declaration) → Type 0
Declares all old new before after (Ok end) read = IsDeclared all old new before after read end
Declares all old new before after (Err e) read = Fails all e read
