use Rattle.cv_syntax_trees.proofs.lists.Options.{IfSome_weaker}
use Rattle.cv.specs.Answers.{lines_along}
use Rattle.cv.specs.Causes.{outside_of}
use Rattle.cv.specs.Words.{asked_by, source_asked, command_of}
use Rattle.cv.proofs.Endings.{ends_well}
use Rattle.cv.proofs.Writing.{kept_calls, kept_close, kept_complete, kept_sound, kept_steps, kept_words, says_begun}
use Rattle.cv.proofs.top.run.Goals as goal

pub returns-clause-words : goal.returns-clause-words
returns-clause-words g c = kept_words _ _ _ c.write.ensures.kept c.decide-report.ensures.words

pub returns-clause-ends : goal.returns-clause-ends
returns-clause-ends g c =
    let b = c.decide-report.ensures.begins in
    (c.write.ensures.written (lines_along c.decide-report.result.report b.answers.names b.course) _ _ c.decide-report.ensures.never b.streams).1

pub returns-clause-says : goal.returns-clause-says
returns-clause-says g c =
    let b = c.decide-report.ensures.begins in
    let w = c.write.ensures.written (lines_along c.decide-report.result.report b.answers.names b.course) _ _ c.decide-report.ensures.never b.streams in
    let kept = c.write.ensures.kept in
    says_begun {o = outside_of (g.F.Shelf.told c.args.shelf.now) (asked_by c.args.words.now) (g.F.Shelf.faults c.args.shelf.now) (g.F.Shelf.faults c.decide-report.new.shelf)} c.decide-report.ensures.begins _ _ _ kept (kept_sound _ _ kept c.decide-report.ensures.sound) (kept_close _ _ kept c.decide-report.ensures.games) (kept_steps _ _ kept c.decide-report.ensures.steps) (kept_calls _ _ kept c.decide-report.ensures.calls) w.0

pub returns-clause-complete : goal.returns-clause-complete
returns-clause-complete g c = λ quiet.
    IfSome_weaker _ _ (source_asked (g.F.Shelf.told c.args.shelf.now) (asked_by c.args.words.now))
    (λ source done. kept_complete (command_of (asked_by c.args.words.now)) source _ _ c.write.ensures.kept done) (c.decide-report.ensures.complete quiet)

pub returns-clause-good : goal.returns-clause-good
returns-clause-good g c = λ quiet still.
    let ends = returns-clause-ends g c in
    IfSome_weaker _ _ (source_asked (g.F.Shelf.told c.args.shelf.now) (asked_by c.args.words.now))
    (λ source done good. ends_well (command_of (asked_by c.args.words.now)) _ _ source (kept_complete (command_of (asked_by c.args.words.now)) source _ _ c.write.ensures.kept done) good ends.either (λ w. still (ends.write w))) (c.decide-report.ensures.complete quiet)
