use Rattle.cv_script.proofs.reader.Steps.{finished}
use Rattle.cv_script.proofs.reader.planting.steps_of.Goals as goal

pub returns-clause-trees : goal.returns-clause-trees
returns-clause-trees c = finished c.args.pool.now.trees c.items.steps.items c.items.at _ c.in_default.not-Some c.items.invariant.trees
