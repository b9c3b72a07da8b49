use Rattle.std.proofs.Common.{ap, sym, ◌∙◌}
use Rattle.cv_parse_tables.specs.Table.{rows_of}
use Rattle.cv_print_tables.specs.Items.{listed}
use Rattle.cv_print_tables.specs.Layout.{layout, piece_layout}
use Rattle.cv_print_tables.specs.Prints.{head_belongs}
use Rattle.cv_print_tables.proofs.Rows.{none_rest, none_text, turns_rest, turns_text}
use Rattle.cv_print_tables.proofs.printing.+rows.Goals as goal

pub push_piece-returns-in_default-clause-text : goal.push_piece-returns-in_default-clause-text
push_piece-returns-in_default-clause-text t c = none_text (rows_of c.args.rows.now) c.args.names.now c.args.depth (piece_layout (layout (rows_of c.args.rows.now) c.args.bound) c.args.piece) c.next_head.result (listed c.args.pool.now.trees c.args.items) c.args.out.now.items c.in_default.ensures.none c.next_head.ensures

pub push_piece-returns-in_default-clause-rest : goal.push_piece-returns-in_default-clause-rest
push_piece-returns-in_default-clause-rest t c = none_rest (rows_of c.args.rows.now) c.args.names.now c.args.depth (piece_layout (layout (rows_of c.args.rows.now) c.args.bound) c.args.piece) c.next_head.result (listed c.args.pool.now.trees c.args.items) c.in_default.ensures.none c.next_head.ensures

pub push_repeated-turns-preserved : goal.push_repeated-turns-preserved
push_repeated-turns-preserved t c =
    let f = layout (rows_of c.args.rows.now) c.args.bound c.args.row in
    let there = ap (head_belongs f) (sym c.next_head.ensures) ∙ sym c.if-not-fits.ensures in
    record {
      live = c.in_ok-rest.ensures.live;
      text = turns_text (rows_of c.args.rows.now) c.args.names.now c.args.depth f c.turns.turns (listed c.args.pool.now.trees c.turns.rest) (listed c.args.pool.now.trees c.in_ok-rest.rest) c.turns.out.items c.push_row.new.out.items _ c.turns-test.true there c.in_ok-rest.ensures.text c.in_ok-rest.ensures.rest c.turns.invariant.text;
      rest = turns_rest (rows_of c.args.rows.now) c.args.names.now c.args.depth f c.turns.turns (listed c.args.pool.now.trees c.turns.rest) (listed c.args.pool.now.trees c.in_ok-rest.rest) _ c.turns-test.true there c.in_ok-rest.ensures.rest c.turns.invariant.rest;
    }
