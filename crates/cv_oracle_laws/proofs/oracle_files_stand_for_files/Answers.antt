use Rattle.cv_oracle_laws.proofs.Files.{stands_for}
use Rattle.cv_oracle_laws.proofs.oracle_files_stand_for_files.Goals as goal

pub returns : goal.returns
returns c = stands_for
