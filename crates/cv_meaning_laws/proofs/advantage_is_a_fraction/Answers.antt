use Rattle.cv_meaning_laws.proofs.Fractions.{advantage_fraction, chance_fraction}
use Rattle.cv_meaning_laws.proofs.advantage_is_a_fraction.Goals as goal

pub returns-clause-chance : goal.returns-clause-chance
returns-clause-chance c = chance_fraction

pub returns-clause-advantage : goal.returns-clause-advantage
returns-clause-advantage c = advantage_fraction
