use Rattle.std.proofs.Common.{arith}
use Rattle.cv_alone.proofs.Walking.{read_all, read_more}
use Rattle.cv_alone.proofs.leave.queries.Goals as goal

pub tokens-preserved : goal.tokens-preserved
tokens-preserved c =
    read_more c.args.tokens.now c.tokens.reading c.at.result c.behind-reading.result c.tokens.k c.text-text.result.now c.at.ensures c.behind-reading.ensures c.text-text.ensures (omega arith) c.tokens.invariant

pub returns : goal.returns
returns c = read_all c.args.tokens.now c.tokens.reading c.tokens.k c.tokens.invariant (omega arith)
