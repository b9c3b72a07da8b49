use Rattle.cv_derive_reasons.proofs.injectivity.Injective.{data_function, no_function}
use Rattle.cv_derive_reasons.proofs.injectivity.data.is_data.Goals as goal

pub returns-in-Fun : goal.returns-in-Fun
returns-in-Fun c = λ trees. data_function trees c.args.decls.now.list c.args.f c.class.result c.class.ensures.class c.in-Fun.data_like c.in-Fun.is

pub returns-in_default : goal.returns-in_default
returns-in_default c = λ trees. no_function trees c.args.decls.now.list c.args.f c.class.result c.class.ensures.class c.in_default.not-Fun
