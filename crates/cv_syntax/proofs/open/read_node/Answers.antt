use Rattle.cv_syntax.proofs.Openings.{opened_none}
use Rattle.cv_syntax.proofs.open.read_node.Goals as goal

pub returns-clause-no_first : goal.returns-clause-no_first
returns-clause-no_first c = opened_none c.args.pool.now.trees c.kid.result _ c.kid.ensures.tree c.kid.ensures.none

pub returns-clause-no_second : goal.returns-clause-no_second
returns-clause-no_second c = opened_none c.args.pool.now.trees c.kid-2.result _ c.kid-2.ensures.tree c.kid-2.ensures.none
