use Rattle.cv_meaning_chances.proofs.contexts.OnlyMade.{all_made}
use Rattle.cv_meaning_chances.proofs.contexts.only_calls_that_were_made_are_found.Goals as goal

pub returns : goal.returns
returns c = all_made
