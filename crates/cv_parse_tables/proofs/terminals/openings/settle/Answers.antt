use Rattle.std.proofs.Common.{arith}
use Rattle.cv_parse_tables.proofs.terminals.RightSides.{settled_all, settled_more}
use Rattle.cv_parse_tables.proofs.terminals.openings.settle.Goals as goal

pub signs-preserved : goal.signs-preserved
signs-preserved c = settled_more c.args.signs.now c.signs.signs c.signs.place _ c.signs.k _ _ _ _ c.signs.invariant (omega (arith, c.signs-test.true)) c.turn_of-turn.ensures c.is_right_side-right.ensures c.with_opening.ensures c.next_place-place.ensures

pub returns : goal.returns
returns c = settled_all c.args.signs.now c.signs.signs c.signs.place c.signs.k c.signs.invariant (omega (arith, c.signs-test.false))
