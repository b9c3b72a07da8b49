use Rattle.cv_settling_measures.proofs.Rewriting.{rewrite_lowers}
use Rattle.cv_settling_measures.proofs.rewriting_lowers_as_terms_do.Goals as goal

pub returns : goal.returns
returns c = rewrite_lowers
