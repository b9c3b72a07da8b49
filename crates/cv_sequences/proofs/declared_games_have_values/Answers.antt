use Rattle.cv_sequences.proofs.Asked.{choices_valued}
use Rattle.cv_sequences.proofs.declared_games_have_values.Goals as goal

pub returns : goal.returns
returns c = choices_valued
