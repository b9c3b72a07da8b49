use Rattle.cv_syntax.proofs.Trees.{empty_at}
use Rattle.cv_inline.proofs.terms.parts.+copy.Goals as goal

pub returns-in_default : goal.returns-in_default
returns-in_default t c = rw (empty_at c.args.pool.now.trees c.args.part c.in_default.is) c.nothing.ensures
