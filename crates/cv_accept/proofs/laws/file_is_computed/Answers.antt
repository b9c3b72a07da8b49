use Rattle.cv_accept.proofs.Readings.{file_is_read, read_is_file}
use Rattle.cv_accept.proofs.laws.file_is_computed.Goals as goal

pub returns-clause-is : goal.returns-clause-is
returns-clause-is c = λ limit bytes f e. read_is_file limit bytes f e

pub returns-clause-only : goal.returns-clause-only
returns-clause-only c = λ limit bytes f w. file_is_read limit bytes f w
