use Rattle.std.proofs.Common.{arith}
use Rattle.cv_query_parts.specs.Alternatives.{lists}
use Rattle.cv_query_parts.proofs.Choosing.{all_added}
use Rattle.cv_query_parts.proofs.alternatives.add_each.Goals as goal

pub returns : goal.returns
returns c = all_added c.args.first.now c.args.others.now c.others.k (omega arith) (lists c.args.found.now.items) (lists c.others.found.items) c.others.invariant
