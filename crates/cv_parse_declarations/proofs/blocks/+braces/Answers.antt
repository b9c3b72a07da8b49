use Rattle.std.proofs.Common.{sym}
use Rattle.cv_parse_declarations.proofs.Pieces.{pieces_begin, pieces_done, pieces_go, pieces_nearer}
use Rattle.cv_parse_declarations.proofs.blocks.+braces.Goals as goal

pub matched-pieces-init : goal.matched-pieces-init
matched-pieces-init t c = pieces_begin c.args.depth c.args.signs.now c.args.at c.requires.at

pub matched-pieces-preserved : goal.matched-pieces-preserved
matched-pieces-preserved t c = pieces_go c.args.depth c.args.signs.now _ _ _ c.pieces.invariant (sym c.pieces-test.ensures) c.in_ok-place.ensures.passes

pub matched-pieces-smaller : goal.matched-pieces-smaller
matched-pieces-smaller t c = pieces_nearer c.args.depth c.args.signs.now _ _ c.pieces.invariant.read.within c.in_ok-place.ensures.passes

pub matched-returns : goal.matched-returns
matched-returns t c = record { passes = pieces_done c.args.depth c.args.signs.now _ _ c.pieces.invariant (sym c.pieces-test.ensures) }
