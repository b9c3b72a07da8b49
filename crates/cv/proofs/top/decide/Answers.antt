use Rattle.std.proofs.Common.{Option, ap, sym, ◌∙◌, subst}
use Rattle.std.specs.Prelude.{IfSome, option_map}
use Rattle.cv_library.specs.Givens.{Given}
use Rattle.cv_outside.specs.words.Forms.{Asked}
use Rattle.cv_outside.specs.words.Words.{asked_of}
use Rattle.cv.specs.Answers.{IsComplete}
use Rattle.cv.specs.Words.{asked_by, source_asked, command_of}
use Rattle.cv.proofs.Endings.{memory_complete}
use Rattle.cv.proofs.top.decide.Goals as goal

pub returns-in_default-clause-complete : goal.returns-in_default-clause-complete
returns-in_default-clause-complete g c = λ quiet. memory_complete (command_of (asked_by c.args.words.now)) (source_asked (g.F.Shelf.told c.args.shelf.now) (asked_by c.args.words.now)) _ c.run_without_file.ensures.status

pub returns-in-None-clause-complete : goal.returns-in-None-clause-complete
returns-in-None-clause-complete g c = λ quiet.
    subst (λ (o : Option Asked). IfSome (source_asked (g.F.Shelf.told c.args.shelf.now) o) (λ (b : Given). IsComplete (command_of o) b c.answer.result.report.status)) (ap (option_map asked_of) (sym c.in-Some.is) ∙ c.in-Ok.ensures)
    (c.answer.ensures.complete quiet)
