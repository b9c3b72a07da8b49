use Rattle.cv_sequences.proofs.Chains.{within}
use Rattle.cv_sequences.proofs.chains_are_within_their_sums.Goals as goal

pub returns : goal.returns
returns c = λ ds own first links last w k i sat x asked v a advantages p. within ds own first w i sat x asked v a advantages links last k p
