use Rattle.std.proofs.Common.{length}
use Rattle.cv_rule_pick.proofs.planning.picked.Goals as goal

pub returns-clause-live : goal.returns-clause-live
returns-clause-live c = c.in_ok-add_with_terms.ensures.live (c.new-parts.ensures.live (length c.args.pool.now.trees))
