use Rattle.cv_steps.specs.Steps.{Zero}
use Rattle.cv_derive_laws.proofs.stores.Costs.{kept_costs}
use Rattle.cv_sequences.proofs.costs.Costs.{costs_kept}
use Rattle.cv_sequences.proofs.costs.kept_chances_cost_nothing.Goals as goal

pub returns-clause-zero : goal.returns-clause-zero
returns-clause-zero c = λ ds game next. (kept_costs ds game next Zero, costs_kept ds game next)

pub returns-clause-any : goal.returns-clause-any
returns-clause-any c = kept_costs
