use Rattle.std.proofs.Common.{length}
use Rattle.cv_typing.proofs.below.list_wants.Goals as goal

pub returns-in-Indices-clause-live : goal.returns-in-Indices-clause-live
returns-in-Indices-clause-live c = c.indices_wants.ensures.live (length c.args.pool.now.trees)
