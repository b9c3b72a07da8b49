use Rattle.std.proofs.Common.{arith, sym}
use Rattle.cv_parse_terms.specs.Tables.{rows_of}
use Rattle.cv_parse_terms.proofs.Walks.{deeper_runs, list_goes, list_row_stops, no_row_stops, passed_on, row_runs}
use Rattle.cv_parse_terms.proofs.interpreter.+walk.Goals as goal

pub list-returns-in_err-place : goal.list-returns-in_err-place
list-returns-in_err-place t c =
    passed_on c.args.signs.now c.from_residual-in_err-place.result _ _ _ _ c.from_residual-in_err-place.ensures.1
    (list_row_stops c.args.closing c.args.mark _ c.args.signs.now c.turns.trail c.turns.names.items c.turns.place c.in_ok-next.next c.turns.turns c.turns.count _ _ c.turns-test.true (sym c.if-not-is_at.ensures) c.in_ok-next.ensures c.in_err-place.ensures c.turns.invariant.same)

pub list-turns-preserved : goal.list-turns-preserved
list-turns-preserved t c = record {
  within = c.in_ok-place.ensures.0;
  same = list_goes c.args.closing c.args.mark _ c.args.signs.now c.turns.trail c.read_row.new.trail c.turns.names.items c.read_row.new.names.items c.turns.place _ _ c.turns.turns c.turns.count _ c.turns-test.true (sym c.if-not-is_at.ensures) c.in_ok-next.ensures c.in_ok-place.ensures c.turns.invariant.same;
  fits = let f = c.turns.invariant.fits in let h = c.turns-test.true in omega arith;
}

pub read_piece-returns-then-depth-gt0-2 : goal.read_piece-returns-then-depth-gt0-2
read_piece-returns-then-depth-gt0-2 t c = deeper_runs c.args.rows.now c.args.depth c.args.bound c.args.piece c.in-Deeper.ahead c.in-Deeper.r c.args.signs.now _ c.read_table.new.trail c.read_table.new.names.items _ c.in-Deeper.is c.if-depth-gt0-2.true c.read_table.ensures

pub read_row-returns-then-row-bound : goal.read_row-returns-then-row-bound
read_row-returns-then-row-bound t c = row_runs c.args.rows.now c.args.depth c.args.bound c.args.row _ c.args.signs.now _ _ _ _ c.if-row-bound.true c.requires.bound c.read_pieces.ensures

pub read_row-returns : goal.read_row-returns
read_row-returns t c = no_row_stops (rows_of c.args.rows.now) c.args.depth c.args.bound c.args.row c.args.signs.now c.args.at c.args.trail.now c.args.names.now.items c.requires.at c.if-row-bound.false
