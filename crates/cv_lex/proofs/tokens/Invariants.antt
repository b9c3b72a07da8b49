use Rattle.std.proofs.Common.{◌-◌, length}
use Rattle.cv_lex.proofs.Reading.{Reads}
use Rattle.cv_lex.proofs.tokens.Given as goal

abbrev pub invariant-pieces : goal.invariant-pieces
invariant-pieces l = Reads l.bytes l.found l.at

abbrev pub decreases-pieces : goal.decreases-pieces
decreases-pieces l = length l.bytes - l.at
