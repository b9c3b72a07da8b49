use Rattle.cv_meaning_chances.proofs.values.Tapes.{cells_values, tapes}
use Rattle.cv_meaning_chances.proofs.values.games_with_values_have_tapes.Goals as goal

pub returns-clause-cells : goal.returns-clause-cells
returns-clause-cells c = cells_values

pub returns-clause-chance : goal.returns-clause-chance
returns-clause-chance c = tapes
