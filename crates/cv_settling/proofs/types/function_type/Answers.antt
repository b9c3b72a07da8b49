use Rattle.std.proofs.Common.{Some, sym, ap, ◌∙◌}
use Rattle.cv_settling.specs.Seen.{type_in}
use Rattle.cv_settling.proofs.types.function_type.Goals as goal

pub returns-in_default : goal.returns-in_default
returns-in_default c = λ trees. ap type_in (c.in_default.ensures trees)

pub returns-in-OfType : goal.returns-in-OfType
returns-in-OfType c = λ trees. ap type_in (sym (ap Some c.in-OfType.is) ∙ c.in-Some.ensures trees)

pub returns-in-BelowParameter : goal.returns-in-BelowParameter
returns-in-BelowParameter c = λ trees. ap type_in (sym (ap Some c.in-BelowParameter.is) ∙ c.in-Some.ensures trees)
