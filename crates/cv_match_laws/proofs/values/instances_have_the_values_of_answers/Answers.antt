use Rattle.cv_match_laws.proofs.values.Answers.{answered}
use Rattle.cv_match_laws.proofs.values.instances_have_the_values_of_answers.Goals as goal

pub returns : goal.returns
returns c = answered
