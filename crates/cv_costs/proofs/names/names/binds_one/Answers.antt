use Rattle.std.proofs.Common.{ap, ◌∙◌, sym}
use Rattle.cv_syntax.specs.NameSets.{is_in}
use Rattle.cv_syntax.proofs.Trees.{empty_at}
use Rattle.cv_costs.specs.names.Naming.{binds_one}
use Rattle.cv_costs.proofs.names.names.binds_one.Goals as goal

pub returns : goal.returns
returns c = sym (ap (binds_one (is_in c.args.names.now)) (empty_at c.args.pool.now.trees c.binders.at c.in_default.is)) ∙ c.binders.invariant.same
