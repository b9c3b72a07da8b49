use Rattle.cv_syntax.specs.PoolTrees.{tree_at}
use Rattle.cv_settling_overview.proofs.Reading.{name_tested, no_name_tested}
use Rattle.cv_settling_overview.proofs.facts.is_name.Goals as goal

pub returns-in-Some : goal.returns-in-Some
returns-in-Some c = name_tested (tree_at c.args.pool.now.trees c.args.term) c.in-Some.x c.args.name c.in-Some.ensures.some

pub returns-in-None : goal.returns-in-None
returns-in-None c = no_name_tested (tree_at c.args.pool.now.trees c.args.term) c.args.name c.in-None.ensures.none
