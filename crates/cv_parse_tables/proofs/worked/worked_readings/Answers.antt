use Rattle.std.proofs.Common.{refl}
use Rattle.cv_parse_notation.specs.Reads.{read_sort}
use Rattle.cv_parse_tables.proofs.worked.worked_readings.Goals as goal

pub returns-clause-nested : goal.returns-clause-nested
unfolding read_sort
returns-clause-nested c = refl

pub returns-clause-too_deep : goal.returns-clause-too_deep
unfolding read_sort
returns-clause-too_deep c = refl

pub returns-clause-unended : goal.returns-clause-unended
unfolding read_sort
returns-clause-unended c = refl

pub returns-clause-marked : goal.returns-clause-marked
unfolding read_sort
returns-clause-marked c = refl

pub returns-clause-marked_twice : goal.returns-clause-marked_twice
unfolding read_sort
returns-clause-marked_twice c = refl
