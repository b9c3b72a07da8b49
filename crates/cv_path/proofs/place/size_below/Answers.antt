use Rattle.std.proofs.Common.{sym}
use Rattle.cv_syntax.proofs.Trees.{empty_at, size_Empty}
use Rattle.cv_path.proofs.place.size_below.Goals as goal

pub returns-in-None : goal.returns-in-None
returns-in-None c = sym (size_Empty _ (empty_at c.args.pool.now.trees c.args.child c.in-None.is))
