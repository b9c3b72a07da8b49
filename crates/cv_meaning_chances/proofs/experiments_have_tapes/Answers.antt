use Rattle.cv_meaning_chances.proofs.Totals.{cells_values, chance_has_tapes, advantage_has_tapes}
use Rattle.cv_meaning_chances.proofs.experiments_have_tapes.Goals as goal

pub returns-clause-cells : goal.returns-clause-cells
returns-clause-cells c = cells_values

pub returns-clause-chance : goal.returns-clause-chance
returns-clause-chance c = chance_has_tapes

pub returns-clause-advantage : goal.returns-clause-advantage
returns-clause-advantage c = advantage_has_tapes
