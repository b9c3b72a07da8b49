use Rattle.std.proofs.Common.{ap, sym, ◌∙◌}
use Rattle.cv_syntax.specs.Declarations.{declarations}
use Rattle.cv_kernel_crypto.specs.Roles.{binds_one, is_of}
use Rattle.cv_kernel_crypto.proofs.sorts.is_binder_of.Goals as goal

pub returns-in-Binder : goal.returns-in-Binder
returns-in-Binder c = λ trees. c.is_declared.ensures trees ∙ ap (binds_one (is_of (declarations trees c.args.decls.now.list) c.args.role)) (sym c.in-Binder.is)
