use Rattle.std.proofs.Common.{Result, Some, Err, ap, sym, ◌∙◌, subst}
use Rattle.std.specs.Prelude.{◌≢◌, IfSome}
use Rattle.cv_library.specs.Givens.{Given}
use Rattle.cv_outside.specs.declared.shelf.FetchError.{FetchError}
use Rattle.cv_report.specs.declared.report.Command.{Command}
use Rattle.cv_report.specs.declared.report.Status.{Status}
use Rattle.cv_report.specs.declared.report.Status.TheVariants as status
use Rattle.cv_outside.specs.words.Words.{asked_of}
use Rattle.cv.specs.Answers.{IsComplete}
use Rattle.cv.specs.Words.{command_of, source_asked}
use Rattle.cv.specs.declared.asked.Source.{Source}
use Rattle.cv.proofs.Endings.{fetch_begins, fetch_complete, fetch_never, judged_complete, judged_speaks, speaks_never}
use Rattle.cv.proofs.top.answer.Goals as goal

-- an error as an answer
abbrev error : FetchError → Result Source FetchError
error x = Err x

pub returns-in-Ok-clause-command : goal.returns-in-Ok-clause-command
returns-in-Ok-clause-command g c = c.judge.ensures.command ∙ c.command_of-command.ensures

pub returns-in-Ok-clause-never : goal.returns-in-Ok-clause-never
returns-in-Ok-clause-never g c = speaks_never _ (judged_speaks _ _ _ c.judge.ensures.judged)

pub returns-in-Ok-clause-begins : goal.returns-in-Ok-clause-begins
returns-in-Ok-clause-begins g c = c.judge.ensures.begins _ c.in-Ok.ensures.told

pub returns-in-Ok-clause-complete : goal.returns-in-Ok-clause-complete
returns-in-Ok-clause-complete g c = λ quiet.
    subst (λ (k : Command). IfSome (source_asked (g.F.Shelf.told c.args.shelf.now) (Some (asked_of c.args.request))) (λ (b : Given). IsComplete k b c.judge.result.report.status)) c.command_of-command.ensures
    (judged_complete _ _ _ _ c.in-Ok.ensures.told c.in-Ok.ensures.few c.judge.ensures.judged)

pub returns-in-Err-clause-command : goal.returns-in-Err-clause-command
returns-in-Err-clause-command g c = c.run_refused.ensures.command ∙ c.command_of-command.ensures

pub returns-in-Err-clause-never : goal.returns-in-Err-clause-never
returns-in-Err-clause-never g c = subst (λ (s : Status). (s ≢ status.Words) × (s ≢ status.Write)) (sym (c.run_refused.ensures.status ∙ c.fetch_status.ensures)) (fetch_never c.in-Err.fault)

pub returns-in-Err-clause-begins : goal.returns-in-Err-clause-begins
returns-in-Err-clause-begins g c =
    fetch_begins _ _ _ _ _ c.in-Err.fault (λ e. c.in-Err.ensures.failed (ap error e)) (λ e. c.in-Err.ensures.long (ap error e)) (c.run_refused.ensures.status ∙ c.fetch_status.ensures) c.run_refused.ensures.file c.run_refused.ensures.nothing c.run_refused.ensures.silent

pub returns-in-Err-clause-complete : goal.returns-in-Err-clause-complete
returns-in-Err-clause-complete g c = λ quiet.
    subst (λ (s : Status). IfSome (source_asked (g.F.Shelf.told c.args.shelf.now) (Some (asked_of c.args.request))) (λ (b : Given). IsComplete (command_of (Some (asked_of c.args.request))) b s)) (sym (c.run_refused.ensures.status ∙ c.fetch_status.ensures))
    (fetch_complete (command_of (Some (asked_of c.args.request))) (source_asked (g.F.Shelf.told c.args.shelf.now) (Some (asked_of c.args.request))) c.in-Err.fault _ _ (λ e. c.in-Err.ensures.failed (ap error e)) (λ e. c.in-Err.ensures.long (ap error e)) quiet)
