use Rattle.std.proofs.Common.{length}
use Rattle.cv_typing.proofs.below.term_wants.Goals as goal

pub returns-in-Read-clause-live : goal.returns-in-Read-clause-live
returns-in-Read-clause-live c = λ h. (c.wants_indices.ensures.live (length c.args.pool.now.trees), tt)

pub returns-in-Eq-clause-live : goal.returns-in-Eq-clause-live
returns-in-Eq-clause-live c = λ h. (tt, c.like.ensures.live (length c.args.pool.now.trees))
