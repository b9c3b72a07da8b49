use Rattle.cv_meaning_laws.proofs.Agreeing.{value_agree, values_agree}
use Rattle.cv_meaning_laws.proofs.terms_read_their_variables_alone.Goals as goal

pub returns-clause-values : goal.returns-clause-values
returns-clause-values c = value_agree

pub returns-clause-lists : goal.returns-clause-lists
returns-clause-lists c = values_agree
