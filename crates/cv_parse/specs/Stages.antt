-- What the stages of reading a game or a term answer. This profile's own.
use Rattle.std.specs.Prelude.{◌≡◌, ℕ, ◌+◌, ◌≤◌, min, List, [], ◌∷◌, ◌++◌, drop, length, Option, Some, None, Result, Ok, Err}
use Rattle.cv_syntax.specs.Postorder.{postorder}
use Rattle.cv_syntax_trees.specs.Tree.{Tree}
use Rattle.cv_parse_notation.specs.declared.sign.Sign.{Sign}
use Rattle.cv_parse_notation.specs.Reads.{found}
use Rattle.cv_parse_grammar.specs.Names.{Uses}
use Rattle.cv_parse_terms.specs.declared.lookahead.ReadError.{ReadError}
use Rattle.cv_parse_terms.specs.declared.lookahead.ReadError.TheVariants as reading
use Rattle.cv_parse_terms.specs.declared.trail.NameUse.{NameUse}
use Rattle.cv_parse_terms.specs.declared.trail.Trail.{Trail}
use Rattle.cv_parse_terms.specs.Gives.{Fails, use_of, uses_of}
use Rattle.cv_syntax.specs.declared.work.BuildError.TheVariants.{OutOfMemory}
use Rattle.cv_parse.specs.declared.error.ParseError.{ParseError}
use Rattle.cv_parse.specs.declared.error.ParseError.TheVariants.{Syntax, Nesting, Build}
use Rattle.cv_parse.specs.Games.{read_process}
use Rattle.cv_parse.specs.Terms.{read_term}

-- A game was read to the end: its uses of names were noted behind others, and its parts were made.
pub record IsProcess (signs : List Sign) (old new : Trail) : Type 0 where
  pub game : Tree
  pub uses : Uses
  pub is : read_process signs ≡ found game uses []
  pub noted : uses_of new.uses.items ≡ uses_of old.uses.items ++ uses
  pub parts : new.makes.items ≡ old.makes.items ++ postorder game

abbrev pub GivesProcess : List Sign → Trail → Trail → Result (Unit {0}) ReadError → Type 0
GivesProcess signs old new (Ok u) = IsProcess signs old new
GivesProcess signs old new (Err e) = Fails signs e (read_process signs)

-- a use, or none, as a list
abbrev pub perhaps_use : Option NameUse → Uses
perhaps_use None = []
perhaps_use (Some u) = use_of u ∷ []

-- A term was read up to a place, where none of its tokens stands, and its parts were made.
pub record IsTerm (signs : List Sign) (old new : Trail) (next : ℕ) : Type 0 where
  pub term : Tree
  pub uses : Uses
  pub is : read_term signs ≡ found term uses (drop next signs)
  pub within : next ≤ length signs
  pub parts : new.makes.items ≡ old.makes.items ++ postorder term

abbrev pub GivesTerm : List Sign → Trail → Trail → Result ℕ ReadError → Type 0
GivesTerm signs old new (Ok next) = IsTerm signs old new next
GivesTerm signs old new (Err e) = Fails signs e (read_term signs)

-- a fault of signs that begin at a token
abbrev pub shifted : (from : ℕ) → ReadError → ParseError
shifted from (reading.Syntax k) = Syntax (min (from + k) 4294967295)
shifted from (reading.Nesting k) = Nesting (min (from + k) 4294967295)
shifted from reading.OutOfMemory = Build OutOfMemory
