use Rattle.cv_costs.specs.Factors.{factors_of}
use Rattle.cv_costs.proofs.Values.{with_value}
use Rattle.cv_costs.proofs.laws.factors_have_the_value.Goals as goal

pub returns-clause-more : goal.returns-clause-more
returns-clause-more c = λ order i n ns. with_value order i n (factors_of order ns)
