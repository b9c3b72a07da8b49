use Rattle.std.proofs.Common.{ap, sym}
use Rattle.cv_scope_rules.specs.typing.Parts.{bound_at}
use Rattle.cv_syntax.proofs.Trees.{empty_at}
use Rattle.cv_typing.proofs.locals.bound_at.Goals as goal

pub returns-in_default : goal.returns-in_default
returns-in_default c = sym (ap bound_at (empty_at c.args.pool.now.trees c.args.taken c.in_default.is))
