use Rattle.cv_meaning_chances.proofs.alignment.Closing.{equal_under_names, equal_where_within}
use Rattle.cv_meaning_chances.proofs.alignment.like_experiments_have_equal_chances.Goals as goal

pub returns-clause-names : goal.returns-clause-names
returns-clause-names c = equal_under_names

pub returns-clause-within : goal.returns-clause-within
returns-clause-within c = equal_where_within
