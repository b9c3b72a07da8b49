use Rattle.std.proofs.Common.{ap, ap₂, length, ◌∙◌}
use Rattle.cv_bound.specs.closings.Queries.{first_unclosed, numbers_of, sum_in}
use Rattle.cv_report.specs.verdicts.Verdicts.{ended_with, verdicts_by}
use Rattle.cv_syntax.specs.Classes.{queries}
use Rattle.cv_follow.specs.Walks.{with_verdicts}
use Rattle.cv_follow.proofs.Verdicts.{verdicts_length}
use Rattle.cv_follow.proofs.walk.walk_to_end.Goals as goal

pub returns-in-Ok : goal.returns-in-Ok
returns-in-Ok c =
    let closed = c.args.sequence.now.closed in
    let list = queries c.args.decls.now.list in
    let verdicts = c.in-Ok.ensures.verdicts ∙ ap (λ cs. verdicts_by (sum_in cs) 1 list) c.closed.ensures in
    let many = ap length c.as_slice.ensures.value ∙ (ap length verdicts ∙ verdicts_length (sum_in closed) 1 list) in
    with_verdicts (c.end_of-status.ensures ∙ ap₂ (λ cs n. ended_with (first_unclosed (numbers_of cs) n)) c.closed-in-Ok.ensures many) verdicts
