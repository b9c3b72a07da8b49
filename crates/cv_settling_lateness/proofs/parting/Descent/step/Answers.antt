use Rattle.std.proofs.Common.{sym, subst}
use Rattle.cv_pool.specs.Nodes.{ChildBelow}
use Rattle.cv_settling_lateness.proofs.parting.Descent.step.Goals as goal

pub returns-then-high-children : goal.returns-then-high-children
returns-then-high-children c n a b = subst (ChildBelow n) (sym c.requires.first) a

pub returns : goal.returns
returns c n a b = subst (ChildBelow n) (sym c.requires.second) b
