use Rattle.cv_steps.proofs.values.Orders.{places_are_kept, like_terms_are_one, twice_is_doubled, unlike_terms_stay}
use Rattle.cv_steps.proofs.values.terms_of_sums.Goals as goal

pub returns-clause-places : goal.returns-clause-places
returns-clause-places c = places_are_kept

pub returns-clause-apart : goal.returns-clause-apart
returns-clause-apart c = like_terms_are_one

pub returns-clause-twice : goal.returns-clause-twice
returns-clause-twice c = twice_is_doubled

pub returns-clause-alone : goal.returns-clause-alone
returns-clause-alone c = unlike_terms_stay
