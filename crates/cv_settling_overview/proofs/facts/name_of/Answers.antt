use Rattle.std.proofs.Common.{ap, sym, ◌∙◌}
use Rattle.cv_syntax.specs.PoolTrees.{tree_at}
use Rattle.cv_settling_overview.proofs.Reading.{no_child, no_leaf}
use Rattle.cv_settling_overview.proofs.facts.name_of.Goals as goal

pub returns-in_default-clause-none : goal.returns-in_default-clause-none
returns-in_default-clause-none c = λ x e. no_leaf x (sym (ap (tree_at c.args.pool.now.trees) c.in_default.is ∙ no_child c.args.pool.now.trees) ∙ e)
