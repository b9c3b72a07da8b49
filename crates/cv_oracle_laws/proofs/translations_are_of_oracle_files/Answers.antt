use Rattle.cv_oracle_laws.proofs.Exactly.{spells_exactly}
use Rattle.cv_oracle_laws.proofs.translations_are_of_oracle_files.Goals as goal

pub returns : goal.returns
returns c = spells_exactly
