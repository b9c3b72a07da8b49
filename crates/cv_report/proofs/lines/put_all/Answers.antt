use Rattle.std.proofs.Common.{arith, length-drop}
use Rattle.cv_report.proofs.Takes.{takes_slice}
use Rattle.cv_report.proofs.lines.put_all.Goals as goal

pub pieces-preserved : goal.pieces-preserved
pieces-preserved g c =
    let n = c.in_ok-done.ensures.count in
    let later = c.in_ok-done.ensures.later in
    record {
      within = omega (arith, length-drop c.pieces.done c.args.piece.now);
      tells = λ t. c.pieces.invariant.tells (c.in_ok-done.ensures.tells t);
      taken = takes_slice _ _ _ c.args.piece.now c.pieces.done c.in_ok-done.field-0 c.in_ok-done.ensures.tells c.pieces.invariant.taken c.in_ok-done.ensures.ok;
      later = omega arith;
    }
