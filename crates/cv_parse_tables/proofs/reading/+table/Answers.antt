use Rattle.std.proofs.Common.{sym, refl}
use Rattle.cv_parse_tables.specs.Table.{rows_of, form}
use Rattle.cv_parse_tables.proofs.Readers.{below_fails, chain_piece, far_begins, far_goes, no_row, none_piece, outer_missing, outer_piece, over_piece, pieces_next, row_makes, sort_fails, sort_makes, turns_begin, turns_next}
use Rattle.cv_parse_tables.proofs.reading.+table.Goals as goal

pub deeper-returns : goal.deeper-returns
deeper-returns t c = record { reads = below_fails c.args.rows.now c.args.depth c.args.row c.args.signs.now _ _ c.args.at c.if-depth-gt0.false c.begins_at-begins.ensures c.shallow.ensures }

pub phrase-returns-in_err-count : goal.phrase-returns-in_err-count
phrase-returns-in_err-count t c = record { reads = sort_fails c.args.rows.now c.args.depth c.args.row c.args.signs.now c.args.at _ _ _ _ c.from_residual.ensures.1 c.in_err-count.ensures.reads }

pub phrase-returns : goal.phrase-returns
phrase-returns t c = record { reads = sort_makes c.args.rows.now c.args.depth c.args.row c.args.signs.now c.args.at _ _ _ _ _ c.in_ok-count.ensures.reads refl c.in_ok-close_all.ensures }

pub read_piece-returns-in_ok-place-in-Phrase : goal.read_piece-returns-in_ok-place-in-Phrase
read_piece-returns-in_ok-place-in-Phrase t c = record { reads = outer_piece (rows_of c.args.rows.now) c.args.depth (form (rows_of c.args.rows.now) c.args.bound) c.args.piece c.in-Phrase.phrase c.args.signs.now _ _ _ _ c.in-Phrase.is c.in_ok-place-in-Phrase.ensures.reads }

pub read_piece-returns-in_ok-close_chain-in-Chain : goal.read_piece-returns-in_ok-close_chain-in-Chain
read_piece-returns-in_ok-close_chain-in-Chain t c = record { reads = chain_piece (rows_of c.args.rows.now) c.args.depth (form (rows_of c.args.rows.now) c.args.bound) c.args.piece c.in-Chain.r c.args.signs.now _ _ c.read_row-in-Chain.new.trail _ _ _ c.in-Chain.is c.in_ok-count-in-Chain.ensures.reads refl c.in_ok-close_chain-in-Chain.ensures }

pub read_piece-returns-in_ok-close_over-in-Over : goal.read_piece-returns-in_ok-close_over-in-Over
read_piece-returns-in_ok-close_over-in-Over t c = record { reads = over_piece (rows_of c.args.rows.now) c.args.depth (form (rows_of c.args.rows.now) c.args.bound) c.args.piece c.in-Over.head c.in-Over.r c.args.signs.now _ _ c.read_row-in-Over.new.trail _ _ _ c.in-Over.is c.in_ok-count-in-Over.ensures.reads refl c.in_ok-close_over-in-Over.ensures }

pub read_pieces-pieces-init : goal.read_pieces-pieces-init
read_pieces-pieces-init t c = far_begins c.args.signs.now _ _ _ c.args.at c.requires.at refl

pub read_pieces-pieces-preserved : goal.read_pieces-pieces-preserved
read_pieces-pieces-preserved t c =
    far_goes c.args.signs.now _ _ _ _ _ _ _ _ _ _ _ _ c.pieces.invariant c.in_ok-more.ensures.reads c.in_ok-count.ensures.sum
    (pieces_next (rows_of c.args.rows.now) c.args.depth (form (rows_of c.args.rows.now) c.args.bound) c.args.pieces.now c.pieces.piece-index _ c.args.signs.now _ _ _ _ _ c.pieces-test.true c.in_ok-more.ensures.reads)

pub read_row-returns-then-row-bound : goal.read_row-returns-then-row-bound
read_row-returns-then-row-bound t c = record { reads = row_makes c.args.rows.now c.args.depth c.args.bound c.args.row _ c.args.signs.now _ _ _ _ c.if-row-bound.true c.requires.bound c.read_pieces.ensures.reads }

pub read_row-returns : goal.read_row-returns
read_row-returns t c = record { reads = no_row (rows_of c.args.rows.now) c.args.depth c.args.bound c.args.row c.args.signs.now c.args.at c.requires.at c.if-row-bound.false }

pub repeated-turns-init : goal.repeated-turns-init
repeated-turns-init t c = far_begins c.args.signs.now _ _ _ c.args.at c.requires.at (turns_begin (rows_of c.args.rows.now) c.args.depth (form (rows_of c.args.rows.now) c.args.bound c.args.row) c.args.signs.now c.args.at)

pub repeated-turns-preserved : goal.repeated-turns-preserved
repeated-turns-preserved t c =
    far_goes c.args.signs.now _ _ _ _ _ _ _ _ _ _ _ _ c.turns.invariant c.in_ok-more.ensures.reads c.in_ok-count.ensures.sum
    (turns_next (rows_of c.args.rows.now) c.args.depth (form (rows_of c.args.rows.now) c.args.bound c.args.row) c.turns.turns c.args.signs.now _ _ _ _ _ c.turns-test.true (sym c.if-not-begins_at.ensures) c.in_ok-more.ensures.reads)

pub read_piece-returns-in_default : goal.read_piece-returns-in_default
read_piece-returns-in_default t c = record { reads = none_piece c.args.rows.now c.args.bound c.args.depth c.in-OneOf.first c.in-OneOf.count c.args.piece c.args.signs.now c.args.at c.requires.at c.in-OneOf.is c.in_default.ensures.none }

pub read_piece-returns-in_err-place-in-Phrase : goal.read_piece-returns-in_err-place-in-Phrase
read_piece-returns-in_err-place-in-Phrase t c = record { reads = outer_missing (rows_of c.args.rows.now) c.args.depth (form (rows_of c.args.rows.now) c.args.bound) c.args.piece c.in-Phrase.phrase c.args.signs.now _ _ _ _ _ c.in-Phrase.is c.from_residual-in_err-place-in-Phrase.ensures.1 c.in_err-place-in-Phrase.ensures.reads }
