use Rattle.std.proofs.Common.{drop, map}
use Rattle.cv_oracles.specs.Pieces.{piece_for}
use Rattle.cv_oracles.proofs.Putting.{IsPut}
use Rattle.cv_oracles.proofs.put.put_form.Given as goal

abbrev pub invariant-pieces : goal.invariant-pieces
invariant-pieces l = IsPut l.fn.out l.out (map (piece_for l.tokens l.oracle l.k) (drop l.piece-index l.row)) (map (piece_for l.tokens l.oracle l.k) l.row)
