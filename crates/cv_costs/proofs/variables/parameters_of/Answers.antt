use Rattle.std.proofs.Common.{sym, ◌∙◌}
use Rattle.cv_scope_rules.specs.typing.Signature.{variable_in}
use Rattle.cv_typing.specs.Tables.{arrays_of}
use Rattle.cv_costs.proofs.Copies.{none_left, one_more}
use Rattle.cv_costs.proofs.variables.parameters_of.Goals as goal

pub parameters-preserved : goal.parameters-preserved
parameters-preserved c =
    one_more (variable_in (arrays_of c.args.arrays.now) c.args.x) c.parameters.k c.in-Some.n c.parameters.made.items c.push.new.self.items c.in-Some.ensures.parameter c.parameters.invariant c.in_ok-push.ensures.items

pub returns : goal.returns
returns c =
    none_left (variable_in (arrays_of c.args.arrays.now) c.args.x) c.parameters.k c.parameters.made.items (sym c.in_default.is ∙ c.parameter.ensures.parameter) c.parameters.invariant
