use Rattle.cv_inline_draws.proofs.callings.KeyTerms.{lists}
use Rattle.cv_inline_draws.proofs.callings.laws.index_terms_of_keys_are_lists.Goals as goal

pub returns : goal.returns
returns c = lists
