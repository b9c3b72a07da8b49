use Rattle.std.proofs.Common.{length}
use Rattle.cv_kernel.proofs.closing.closing_of.Goals as goal

pub returns-clause-live : goal.returns-clause-live
returns-clause-live c = c.closing_by.ensures.live (length c.args.pool.now.trees) c.in_ok-view.ensures.live
