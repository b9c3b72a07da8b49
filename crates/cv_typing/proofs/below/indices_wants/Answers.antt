use Rattle.std.proofs.Common.{ap, sym, ◌∙◌}
use Rattle.cv_scope_rules.specs.typing.Signature.{variable_in}
use Rattle.cv_typing.specs.Tables.{arrays_of}
use Rattle.cv_scope_rules.specs.typing.Wants as wants
use Rattle.cv_typing.proofs.Parameters.{parameter_none, parameter_some}
use Rattle.cv_typing.proofs.below.indices_wants.Goals as goal

pub returns-in-Some-clause-wants : goal.returns-in-Some-clause-wants
returns-in-Some-clause-wants c = λ trees. sym (ap (λ l. wants.list_wants (wants.Indices l)) (parameter_some (variable_in (arrays_of c.args.arrays.now) c.args.x) c.args.k c.in-Some.n (sym c.parameter.ensures.parameter ∙ c.in-Some.is)))

pub returns-in-None-clause-wants : goal.returns-in-None-clause-wants
returns-in-None-clause-wants c = λ trees. sym (ap (λ l. wants.list_wants (wants.Indices l)) (parameter_none (variable_in (arrays_of c.args.arrays.now) c.args.x) c.args.k (sym c.parameter.ensures.parameter ∙ c.in-None.is)))
