use Rattle.std.proofs.Common.{ap, length, ◌∙◌}
use Rattle.cv_bound.specs.closings.Queries.{first_unclosed, numbers_of, sum_in}
use Rattle.cv_syntax.specs.Classes.{queries}
use Rattle.cv_follow.specs.Searches.{status_of}
use Rattle.cv_follow.specs.Walks.{with_verdicts}
use Rattle.cv_follow.proofs.Verdicts.{verdicts_length}
use Rattle.cv_follow.proofs.searching.finish.Goals as goal

pub returns-in-Ok : goal.returns-in-Ok
returns-in-Ok c =
    let closed = c.args.closed.now in
    let many = ap length c.as_slice.ensures.value ∙ (ap length c.in-Ok.ensures.verdicts ∙ verdicts_length (sum_in closed) 1 (queries c.args.decls.now.list)) in
    with_verdicts (c.end_of_ending-status.ensures ∙ ap (λ n. status_of c.args.moves c.args.ending (first_unclosed (numbers_of closed) n)) many) c.in-Ok.ensures.verdicts
