use Rattle.cv_sequences.proofs.Sums.{games_ready, within}
use Rattle.cv_sequences.proofs.sequences_are_within_their_sums.Goals as goal

pub returns-clause-games : goal.returns-clause-games
returns-clause-games c = λ ds known first passages last w constants sound s. games_ready ds known first w constants passages last sound s

pub returns-clause-sums : goal.returns-clause-sums
returns-clause-sums c = λ ds known first passages last w constants holds unreached k sound s i sat x asked v a advantages.
    within ds known first w constants holds unreached k i sat x asked v a advantages passages last sound s
