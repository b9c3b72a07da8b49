use Rattle.cv_syntax.proofs.Trees.{first_None}
use Rattle.cv_syntax.proofs.children.first_of.Goals as goal

pub returns-in-None-clause-tree : goal.returns-in-None-clause-tree
returns-in-None-clause-tree c = first_None c.args.pool.now.trees c.args.child c.in-None.is
