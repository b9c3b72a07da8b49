use Rattle.std.proofs.Common.{length}
use Rattle.cv_rule_codef.proofs.lists.relisted_parts.Goals as goal

pub returns-clause-live : goal.returns-clause-live
returns-clause-live c =
    let n = length c.args.pool.now.trees in
    c.in_ok-over-2.ensures.live n (c.in_ok-over.ensures.live n (c.in_ok-there-2.ensures.live n (c.in_ok-add_relisted.ensures.live (c.in_ok-there.ensures.live n (c.new-parts.ensures.live n) c.requires.indices)) c.requires.rest))
