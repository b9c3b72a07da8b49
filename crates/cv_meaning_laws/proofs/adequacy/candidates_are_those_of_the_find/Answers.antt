use Rattle.cv_meaning_laws.proofs.adequacy.Finding.{candidates_mean, candidates_once, candidates_ordered}
use Rattle.cv_meaning_laws.proofs.adequacy.candidates_are_those_of_the_find.Goals as goal

pub returns-clause-among : goal.returns-clause-among
returns-clause-among c = candidates_mean

pub returns-clause-once : goal.returns-clause-once
returns-clause-once c = candidates_once

pub returns-clause-order : goal.returns-clause-order
returns-clause-order c = candidates_ordered
