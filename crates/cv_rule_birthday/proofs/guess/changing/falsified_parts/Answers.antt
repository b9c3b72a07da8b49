use Rattle.std.proofs.Common.{length}
use Rattle.cv_rule_birthday.proofs.guess.changing.falsified_parts.Goals as goal

pub returns-clause-live : goal.returns-clause-live
returns-clause-live c = c.in_ok-add_falsified.ensures.live (c.new-parts.ensures.live (length c.args.pool.now.trees))
