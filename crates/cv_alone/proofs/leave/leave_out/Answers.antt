use Rattle.std.proofs.Common.{arith}
use Rattle.cv_alone.proofs.Walking.{left_all, left_more}
use Rattle.cv_alone.proofs.leave.leave_out.Goals as goal

pub tokens-preserved : goal.tokens-preserved
tokens-preserved c =
    left_more c.args.tokens.now c.tokens.reading c.at-here.result c.behind-reading.result c.tokens.k c.text-text.result.now c.at-here.ensures c.behind-reading.ensures c.text-text.ensures
    c.args.number c.args.bytes.now c.tokens.bytes c.put_token.new.bytes c.is_left_out.result (omega arith) c.tokens.invariant c.is_left_out.ensures c.put_token.ensures

pub returns : goal.returns
returns c = left_all c.args.number c.args.tokens.now c.args.bytes.now c.tokens.reading c.tokens.bytes c.tokens.k c.tokens.invariant (omega arith)
