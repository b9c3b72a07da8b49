use Rattle.std.proofs.Common.{◌∙◌, ap}
use Rattle.std.proofs.lemmas.Result.{IfOk-weaker}
use Rattle.cv_bound.specs.closings.Queries.{sum_in}
use Rattle.cv_report.specs.verdicts.Verdicts.{verdicts_by}
use Rattle.cv_syntax.specs.Classes.{queries}
use Rattle.cv.proofs.shown.open_verdicts.Goals as goal

pub returns : goal.returns
returns c =
    IfOk-weaker c.verdicts_of.result _ _
    (λ v h. h ∙ ap (λ cs. verdicts_by (sum_in cs) 1 (queries c.args.decls.now.list)) c.new-closed.ensures)
    c.verdicts_of.ensures.verdicts
