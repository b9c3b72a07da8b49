use Rattle.cv_meaning_laws.proofs.adequacy.Tabled.{table_for, table_against}
use Rattle.cv_meaning_laws.proofs.adequacy.adversaries_are_tables.Goals as goal

pub returns-clause-runs : goal.returns-clause-runs
returns-clause-runs c = table_for

pub returns-clause-advantage : goal.returns-clause-advantage
returns-clause-advantage c = table_against
