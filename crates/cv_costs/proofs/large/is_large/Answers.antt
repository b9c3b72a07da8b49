use Rattle.std.proofs.Common.{◌∙◌}
use Rattle.cv_costs.proofs.OtherSites.{large_same}
use Rattle.cv_costs.proofs.large.is_large.Goals as goal

pub returns : goal.returns
returns c = c.is_large_class.ensures ∙ large_same c.args.work.now.pool.trees c.args.work.now.decls.list c.args.t _ c.class.ensures.class
