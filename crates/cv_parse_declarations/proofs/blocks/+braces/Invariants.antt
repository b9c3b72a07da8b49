use Rattle.std.proofs.Common.{◌-◌, ◌+◌, ◌*◌, length, drop}
use Rattle.cv_parse_grammar.specs.Rules.{matched}
use Rattle.cv_parse_terms.specs.Gives.{read_in}
use Rattle.cv_parse_declarations.proofs.Pieces.{PiecesSoFar}
use Rattle.cv_parse_declarations.proofs.blocks.+braces.Given as goal

abbrev pub invariant-matched-pieces : goal.invariant-matched-pieces
invariant-matched-pieces l = PiecesSoFar l.depth l.signs (read_in l.depth matched (drop l.fn.at l.signs)) l.place

abbrev pub decreases-matched-pieces : goal.decreases-matched-pieces
decreases-matched-pieces l = length l.signs - l.place

abbrev pub decreases-piece : goal.decreases-piece
decreases-piece l = 4 * l.depth + 1

abbrev pub decreases-matched : goal.decreases-matched
decreases-matched l = 4 * l.depth + 2

abbrev pub decreases-braces : goal.decreases-braces
decreases-braces l = 4 * l.depth + 3

abbrev pub decreases-inner_braces : goal.decreases-inner_braces
decreases-inner_braces l = 4 * l.depth
