use Rattle.cv_follow_laws.proofs.Names.{one_file, stand_once}
use Rattle.cv_follow_laws.proofs.names_of_files_stand_once.Goals as goal

pub returns-clause-names : goal.returns-clause-names
returns-clause-names c = λ limit source f w. stand_once limit source f w

pub returns-clause-one : goal.returns-clause-one
returns-clause-one c = λ limit source f g w v. one_file limit source f g w v
