use Rattle.std.proofs.Common.{arith}
use Rattle.cv_query_parts.proofs.Choosing.{found_at, none_at}
use Rattle.cv_query_parts.proofs.alternatives.alternative_at.Goals as goal

pub returns-then-k-alternatives : goal.returns-then-k-alternatives
returns-then-k-alternatives c = found_at c.args.alternatives.now c.args.number c.index-alternatives-k.result c.if-number-eq0.false c.if-k-alternatives.true c.index-alternatives-k.is c.as_slice.result.now c.as_slice.ensures.value

pub returns : goal.returns
returns c = none_at c.args.alternatives.now c.args.number c.if-number-eq0.false (omega (arith, c.if-k-alternatives.false))
