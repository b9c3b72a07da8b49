-- What the readers of a proof block give. This profile's own.
use Rattle.std.specs.Prelude.{ℕ, List, Result, Ok, Err}
use Rattle.cv_syntax_trees.specs.Tree.{Tree, Empty}
use Rattle.cv_parse_notation.specs.declared.sign.Sign.{Sign}
use Rattle.cv_parse_notation.specs.Form.{deeper, either, made, other}
use Rattle.cv_parse_notation.specs.Reads.{Read}
use Rattle.cv_parse_grammar.specs.declared.role.Role.{Role}
use Rattle.cv_parse_grammar.specs.Phrases.{Braces, Phrase}
use Rattle.cv_parse_terms.specs.declared.lookahead.ReadError.{ReadError}
use Rattle.cv_parse_terms.specs.Gives.{Fails, IsPlain}

-- braces, or one token
abbrev pub piece : Phrase (Unit {0})
piece = either (made (λ _. tt) (deeper Braces)) other

-- something was read, and no name was used
pub record IsPassed {A : Type 0} (all : List Sign) (read : Read Role A) (end : ℕ) : Type 0 where
  pub value : A
  pub plain : IsPlain all read value end

abbrev pub PassesSome : {A : Type 0} → List Sign → Result ℕ ReadError → Read Role A → Type 0
PassesSome all (Ok end) read = IsPassed all read end
PassesSome all (Err e) read = Fails all e read

-- the empty tree was read, and no name was used
abbrev pub PassesTree : List Sign → Result ℕ ReadError → Read Role Tree → Type 0
PassesTree all (Ok end) read = IsPlain all read Empty end
PassesTree all (Err e) read = Fails all e read
