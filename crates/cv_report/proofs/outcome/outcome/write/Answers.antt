use Rattle.std.proofs.Common.{subst, sym, ◌∙◌}
use Rattle.cv_report.specs.Lines.{shown_text}
use Rattle.cv_report.specs.Printed.{is_shown, rest_text}
use Rattle.cv_report.specs.Streams.{IsClosed}
use Rattle.cv_report.proofs.outcome.Written.{failed_ends, going_ends, spent_ends}
use Rattle.cv_report.proofs.outcome.outcome.write.Goals as goal

pub returns-in-Going-clause-written : goal.returns-in-Going-clause-written
returns-in-Going-clause-written g c =
    λ l before old never h.
    let r = c.args.report in
    let now = g.K.Sink.taken c.close.new.sink in
    let new = g.K.Sink.faults c.close.new.sink in
    let lines = shown_text (is_shown r) l in
    going_ends r l before now old new never
    (subst (λ f. IsClosed f before now old new lines (rest_text r)) (sym c.flow.ensures ∙ c.in-Going.is) (c.close.ensures.put before old lines (rest_text r) c.rest_text.ensures h.later h.put))

pub returns-in-Failed-clause-written : goal.returns-in-Failed-clause-written
returns-in-Failed-clause-written g c =
    λ l before old never h.
    let r = c.args.report in
    let now = g.K.Sink.taken c.close.new.sink in
    let new = g.K.Sink.faults c.close.new.sink in
    let lines = shown_text (is_shown r) l in
    failed_ends r l c.unwritten.result before now old new c.unwritten.ensures
    (subst (λ f. IsClosed f before now old new lines (rest_text r)) (sym c.flow.ensures ∙ c.in-Failed.is) (c.close.ensures.put before old lines (rest_text r) c.rest_text.ensures h.later h.put))

pub returns-clause-written : goal.returns-clause-written
returns-clause-written g c =
    λ l before old never h.
    let r = c.args.report in
    let now = g.K.Sink.taken c.close.new.sink in
    let new = g.K.Sink.faults c.close.new.sink in
    let lines = shown_text (is_shown r) l in
    spent_ends r c.out_of_memory.result l before now old new c.out_of_memory.ensures
    (subst (λ f. IsClosed f before now old new lines (rest_text r)) (sym c.flow.ensures ∙ c.in-Spent.is) (c.close.ensures.put before old lines (rest_text r) c.rest_text.ensures h.later h.put))
