use Rattle.std.proofs.Common.{◌≡◌, suc, ◌-◌, arith, ◌∙◌, length-drop, drop}
use Rattle.cv_lex.proofs.Comments.{opened, closed, skipped, none_left}
use Rattle.cv_lex.proofs.scan.comment_len.Goals as goal

pub loop-at-preserved-then-opens : goal.loop-at-preserved-then-opens
loop-at-preserved-then-opens c = record {
  within = omega arith;
  few = omega arith;
  rest = opened c.args.bytes.now c.loop-at.at (omega arith) c.loop-at.depth c.if-opens.ensures ∙ c.loop-at.invariant.rest;
}

pub loop-at-preserved-then-closes : goal.loop-at-preserved-then-closes
loop-at-preserved-then-closes c =
    let more : c.loop-at.depth ≡ suc (c.loop-at.depth - 1) = omega arith in
    record {
      within = omega arith;
      few = omega arith;
      rest = closed c.args.bytes.now c.loop-at.at (omega arith) c.loop-at.depth (c.loop-at.depth - 1) more c.if-opens.ensures c.if-closes.ensures ∙ c.loop-at.invariant.rest;
    }

pub loop-at-preserved : goal.loop-at-preserved
loop-at-preserved c = record {
  within = omega arith;
  few = omega arith;
  rest = skipped c.args.bytes.now c.loop-at.at (omega arith) c.loop-at.depth c.if-opens.ensures c.if-closes.ensures ∙ c.loop-at.invariant.rest;
}

pub returns : goal.returns
returns c =
    none_left c.loop-at.depth c.loop-at.at (drop c.loop-at.at c.args.bytes.now) (omega (arith, length-drop c.loop-at.at c.args.bytes.now))
    ∙ c.loop-at.invariant.rest
