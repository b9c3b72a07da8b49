use Rattle.cv_syntax.proofs.Trees.{empty_at}
use Rattle.cv_rule.proofs.Guards.{no_guards}
use Rattle.cv_rule.proofs.listing.guards_in.Goals as goal

pub returns-in-None-clause-guards : goal.returns-in-None-clause-guards
returns-in-None-clause-guards c = no_guards c.args.node.head _ (empty_at c.args.pool.now.trees c.args.node.second c.in-None.is)
