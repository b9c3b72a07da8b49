use Rattle.std.proofs.Common.{◌≡◌, ◌+◌, ap, sym, ◌∙◌, true}
use Rattle.cv_bound.specs.closings.Queries.{is_among, numbers_of}
use Rattle.cv_bound.proofs.closings.Unclosed.{number_closed}
use Rattle.cv_bound.proofs.closings.queries.ClosedQueries.first_unclosed.Goals as goal

pub numbers-preserved : goal.numbers-preserved
numbers-preserved c =
    let closed = numbers_of c.args.self.now in
    let yes : is_among closed (c.numbers.before + 1) ≡ true = ap (is_among closed) (sym c.from.ensures) ∙ (sym c.is_closed.ensures ∙ c.if-not-is_closed.false) in
    number_closed closed c.numbers.before c.args.count _ c.numbers-test.true yes c.numbers.invariant
