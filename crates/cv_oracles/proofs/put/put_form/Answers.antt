use Rattle.cv_oracles.specs.declared.words.Piece.TheVariants.{Own}
use Rattle.cv_oracles.specs.Pieces.{piece_for}
use Rattle.cv_oracles.proofs.Putting.{mapped_more, put_more}
use Rattle.cv_oracles.proofs.put.put_form.Goals as goal

pub pieces-preserved : goal.pieces-preserved
pieces-preserved c =
    put_more c.args.out.now c.pieces.out c.put_piece.new.out _ _ _ _ c.pieces.invariant (mapped_more (piece_for c.args.tokens.now c.args.oracle c.args.k) c.pieces-row.result.now c.pieces.piece-index Own c.pieces-test.true) c.in_ok-put_piece.ensures
