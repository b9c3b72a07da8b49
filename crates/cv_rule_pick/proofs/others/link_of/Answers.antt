use Rattle.std.proofs.Common.{ap₂, sym}
use Rattle.cv_syntax.proofs.Trees.{empty_at}
use Rattle.cv_rule_pick.specs.Looks.{link_in}
use Rattle.cv_rule_pick.proofs.others.link_of.Goals as goal

pub returns-in_default-second-clause-link : goal.returns-in_default-second-clause-link
returns-in_default-second-clause-link c = sym (ap₂ link_in c.in-Branch.is (empty_at c.args.pool.now.trees c.args.node.second c.in_default-second.is))
