use Rattle.std.proofs.Common.{arith}
use Rattle.cv_inline_laws.proofs.draws.Names.{as_many_numbers, numbers_above, numbers_differ}
use Rattle.cv_inline_laws.proofs.draws.numbers_in_a_row_are_new.Goals as goal

pub returns-clause-many : goal.returns-clause-many
returns-clause-many c = as_many_numbers

pub returns-clause-above : goal.returns-clause-above
returns-clause-above c n ds = numbers_above n n ds (omega arith)

pub returns-clause-differ : goal.returns-clause-differ
returns-clause-differ c = numbers_differ
