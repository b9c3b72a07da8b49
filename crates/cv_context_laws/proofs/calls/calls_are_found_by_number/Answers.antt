use Rattle.cv_context_laws.proofs.calls.Found.{site_found}
use Rattle.cv_context_laws.proofs.calls.calls_are_found_by_number.Goals as goal

pub returns : goal.returns
returns c = λ r g l s apt p less at. site_found r l g s apt.terms apt.formed.phrase p less at
