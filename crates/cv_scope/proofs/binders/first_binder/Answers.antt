use Rattle.std.proofs.Common.{ap}
use Rattle.cv_meaning.specs.Binders.{bound_names}
use Rattle.cv_scope_rules.specs.Sites.{bound_types}
use Rattle.cv_syntax.proofs.Trees.{empty_at}
use Rattle.cv_scope.proofs.binders.first_binder.Goals as goal

pub returns-in_default : goal.returns-in_default
returns-in_default c = let e = empty_at c.args.pool.now.trees c.args.list c.in_default.is in (ap bound_names e, ap bound_types e)
