use Rattle.cv_match_laws.proofs.answers.Many.{are_answers, none_is}
use Rattle.cv_match_laws.proofs.answers.answers_above_more_names_are_answers.Goals as goal

pub returns-clause-answers : goal.returns-clause-answers
returns-clause-answers c = are_answers

pub returns-clause-others : goal.returns-clause-others
returns-clause-others c = none_is
