use Rattle.std.proofs.Common.{All, subst}
use Rattle.std.proofs.lemmas.List.{take_all}
use Rattle.std.proofs.lemmas.List.Elements.{All-more}
use Rattle.cv_step_writer.specs.Derivations.{IsLineBelow}
use Rattle.cv_settling.proofs.checking.are_lines_below.Goals as goal

pub loop-line-preserved : goal.loop-line-preserved
loop-line-preserved c =
    All-more (IsLineBelow c.args.count) c.args.lines.now c.loop-line.line-index c.line-item.result c.loop-line-test.true c.loop-line.invariant
    (subst (IsLineBelow c.args.count) c.line-item.is (c.is_line_below.ensures c.if-not-is_line_below.false))

pub returns : goal.returns
returns c =
    λ yes. subst (All (IsLineBelow c.args.count)) (take_all c.loop-line.line-index c.args.lines.now c.loop-line-test.false) c.loop-line.invariant
