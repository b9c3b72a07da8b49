use Rattle.std.proofs.Common.{◌≡◌, ◌+◌, ◌-◌}
use Rattle.cv_bound.specs.closings.Queries.{first_unclosed, first_unclosed_from, numbers_of}
use Rattle.cv_bound.proofs.closings.queries.ClosedQueries.first_unclosed.Given as goal

abbrev pub invariant-numbers : goal.invariant-numbers
invariant-numbers l = first_unclosed_from (numbers_of l.self) (l.before + 1) (l.count - l.before) ≡ first_unclosed (numbers_of l.self) l.count
