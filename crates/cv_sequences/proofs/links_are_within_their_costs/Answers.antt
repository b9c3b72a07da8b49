use Rattle.cv_sequences.proofs.Chains.{link_close}
use Rattle.cv_sequences.proofs.links_are_within_their_costs.Goals as goal

pub returns : goal.returns
returns c = λ ds own first links game l w k e i sat x asked v a. link_close ds own first w i sat x asked v a links game k l e
