use Rattle.std.proofs.Common.{refl, arith}
use Rattle.cv_parse_tables.proofs.terminals.RightSides.{marked_all, marked_begins, marked_more}
use Rattle.cv_parse_tables.proofs.terminals.openings.mark_events.Goals as goal

pub signs-init : goal.signs-init
signs-init c = marked_begins c.args.signs.now _ refl

pub signs-preserved : goal.signs-preserved
signs-preserved c = marked_more c.args.signs.now c.signs.signs c.signs.closings _ c.signs.k _ _ _ _ _ c.signs.invariant (omega (arith, c.signs-test.true)) c.is_nought.ensures c.turn_of-turn.ensures c.with_opening.ensures c.closings_at-closings.ensures

pub returns : goal.returns
returns c = marked_all c.args.signs.now c.signs.signs c.signs.closings c.signs.k c.signs.invariant (omega (arith, c.signs-test.false))
