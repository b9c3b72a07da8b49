use Rattle.std.proofs.Common.{◌≡◌, ◌++◌, ◌-◌, drop, length}
use Rattle.cv_directory.specs.Tables.{seen}
use Rattle.cv_context.specs.products.Products.{parameters_by}
use Rattle.cv_context.proofs.products.keys.keys_of.Given as goal

abbrev pub invariant-parameters : goal.invariant-parameters
invariant-parameters l = l.parameters.items ++ drop l.k (parameters_by ((seen l.directory).variable l.key)) ≡ parameters_by ((seen l.directory).variable l.key)

abbrev pub decreases-parameters : goal.decreases-parameters
decreases-parameters l = length (parameters_by ((seen l.directory).variable l.key)) - l.k
