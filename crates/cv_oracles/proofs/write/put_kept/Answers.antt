use Rattle.std.proofs.Common.{arith}
use Rattle.cv_oracles.proofs.Putting.{kept_more, kept_none, put_more, put_over}
use Rattle.cv_oracles.proofs.write.put_kept.Goals as goal

pub tokens-preserved : goal.tokens-preserved
tokens-preserved c = put_more c.args.out.now c.tokens.out c.put_one.new.out _ _ _ _ c.tokens.invariant (kept_more c.args.region c.args.tokens.now c.tokens.k c.args.to (omega (arith, c.tokens-test.true))) c.in_ok-put_one.ensures

pub returns : goal.returns
returns c = put_over c.args.out.now c.tokens.out _ _ c.tokens.invariant (kept_none c.args.region c.args.tokens.now c.tokens.k c.args.to (omega (arith, c.tokens-test.false)))
