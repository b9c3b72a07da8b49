use Rattle.cv_match_laws.proofs.functions.Bodies.{left_terms}
use Rattle.cv_match_laws.proofs.functions.accepted_equivalences_have_left_terms.Goals as goal

pub returns : goal.returns
returns c = left_terms
