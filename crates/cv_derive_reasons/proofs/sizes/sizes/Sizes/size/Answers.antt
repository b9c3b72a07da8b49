use Rattle.std.proofs.Common.{sym}
use Rattle.cv_syntax.proofs.Walking.{size_end}
use Rattle.cv_derive_reasons.proofs.sizes.sizes.Sizes.size.Goals as goal

pub returns-in_default : goal.returns-in_default
returns-in_default c = sym (size_end c.args.pool.now.trees c.args.child c.in_default.is)
