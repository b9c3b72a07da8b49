use Rattle.cv_alone.proofs.Keeping.{at_alone, length_alone}
use Rattle.cv_alone.proofs.LineEnds.{line_ends_stay}
use Rattle.cv_alone.proofs.laws.alone_keeps_places.Goals as goal

pub returns-clause-length : goal.returns-clause-length
returns-clause-length c = length_alone

pub returns-clause-spaces : goal.returns-clause-spaces
returns-clause-spaces c = at_alone

pub returns-clause-line_ends : goal.returns-clause-line_ends
returns-clause-line_ends c = line_ends_stay
