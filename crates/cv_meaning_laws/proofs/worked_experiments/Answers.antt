use Rattle.cv_meaning_laws.proofs.Asked.{real_asked, random_asked, other_form}
use Rattle.cv_meaning_laws.proofs.worked_experiments.Goals as goal

pub returns-clause-real : goal.returns-clause-real
returns-clause-real c = real_asked

pub returns-clause-random : goal.returns-clause-random
returns-clause-random c = random_asked

pub returns-clause-other_form : goal.returns-clause-other_form
returns-clause-other_form c = other_form

pub returns-clause-events : goal.returns-clause-events
returns-clause-events c = λ qs h. h
