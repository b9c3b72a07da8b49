use Rattle.cv_settling.proofs.Typed.{large_type, not_large}
use Rattle.cv_settling.proofs.types.is_large_type.Goals as goal

pub returns-in-TypeName : goal.returns-in-TypeName
returns-in-TypeName c = λ s trees d. large_type s trees c.args.decls.now.list d c.args.t c.class.result c.class.ensures.class _ c.in-TypeName.large c.in-TypeName.is

pub returns-in_default : goal.returns-in_default
returns-in_default c = λ s trees d. not_large s trees c.args.decls.now.list d c.args.t c.class.result c.class.ensures.class c.in_default.not-TypeName
