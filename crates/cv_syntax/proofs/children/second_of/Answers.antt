use Rattle.cv_syntax.proofs.Trees.{second_None}
use Rattle.cv_syntax.proofs.children.second_of.Goals as goal

pub returns-in-None-clause-tree : goal.returns-in-None-clause-tree
returns-in-None-clause-tree c = second_None c.args.pool.now.trees c.args.child c.in-None.is
