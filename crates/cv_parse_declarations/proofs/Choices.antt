-- One declaration or the other.
use Rattle.std.proofs.Common.{◌≡◌, ℕ, Bool, true, false, List, Result}
use Rattle.cv_syntax_trees.specs.Declarations.{Declaration}
use Rattle.cv_parse_notation.specs.declared.sign.Sign.{Sign}
use Rattle.cv_parse_notation.specs.Reads.{Reader, pick}
use Rattle.cv_parse_grammar.specs.declared.role.Role.{Role}
use Rattle.cv_parse_terms.specs.declared.lookahead.ReadError.{ReadError}
use Rattle.cv_parse_terms.specs.declared.trail.Trail.{Trail}
use Rattle.cv_parse_declarations.specs.declared.signature.heard.Heard.{Heard}
use Rattle.cv_parse_declarations.specs.signature.Declares.{Declares}

pub declares_first : (all : List Sign) (old new : Trail) (g h : List Heard) (r : Result ℕ ReadError) (b : Bool) (p q : Reader Role (List Declaration)) (ts : List Sign) → b ≡ true → Declares all old new g h r (p ts) → Declares all old new g h r (pick b p q ts)
declares_first all old new g h r true p q ts e d = d
declares_first all old new g h r false p q ts e d = absurd (cc)

pub declares_second : (all : List Sign) (old new : Trail) (g h : List Heard) (r : Result ℕ ReadError) (b : Bool) (p q : Reader Role (List Declaration)) (ts : List Sign) → b ≡ false → Declares all old new g h r (q ts) → Declares all old new g h r (pick b p q ts)
declares_second all old new g h r true p q ts e d = absurd (cc)
declares_second all old new g h r false p q ts e d = d

pub ruleset choices = (declares_first, declares_second)
