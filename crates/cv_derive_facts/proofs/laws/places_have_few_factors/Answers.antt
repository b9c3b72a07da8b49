use Rattle.cv_derive_facts.proofs.Factors.{all_counted, few_factors}
use Rattle.cv_derive_facts.proofs.laws.places_have_few_factors.Goals as goal

pub returns-clause-few : goal.returns-clause-few
returns-clause-few c = few_factors

pub returns-clause-counted : goal.returns-clause-counted
returns-clause-counted c = all_counted
