use Rattle.std.proofs.Common.{◌≡◌, ◌++◌, ◌-◌, drop, length}
use Rattle.cv_scope_rules.specs.typing.Signature.{variable_in}
use Rattle.cv_typing.specs.Tables.{arrays_of}
use Rattle.cv_costs.specs.Copies.{parameters_by}
use Rattle.cv_costs.proofs.variables.parameters_of.Given as goal

abbrev pub invariant-parameters : goal.invariant-parameters
invariant-parameters l = l.made.items ++ drop l.k (parameters_by (variable_in (arrays_of l.arrays) l.x)) ≡ parameters_by (variable_in (arrays_of l.arrays) l.x)

abbrev pub decreases-parameters : goal.decreases-parameters
decreases-parameters l = length (parameters_by (variable_in (arrays_of l.arrays) l.x)) - l.k
