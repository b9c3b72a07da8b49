use Rattle.std.proofs.Common.{◌≡◌, drop}
use Rattle.cv_bound.specs.closings.Queries.{sum_in}
use Rattle.cv_bound.proofs.closings.queries.ClosedQueries.sum.Given as goal

abbrev pub invariant-list : goal.invariant-list
invariant-list l = sum_in (drop l.one-index l.self) l.query ≡ sum_in l.self l.query
