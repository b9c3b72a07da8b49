use Rattle.cv_meaning_laws.proofs.adequacy.Choosing.{chosen_evenly}
use Rattle.cv_meaning_laws.proofs.adequacy.a_find_chooses_evenly.Goals as goal

pub returns : goal.returns
returns c = chosen_evenly
