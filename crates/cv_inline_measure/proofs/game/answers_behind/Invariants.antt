use Rattle.std.proofs.Common.{◌≡◌, take}
use Rattle.cv_inline_measure.specs.Games.{answers_in, with_call}
use Rattle.cv_inline_measure.proofs.game.answers_behind.Given as goal

abbrev pub invariant-answers : goal.invariant-answers
invariant-answers l = answers_in l.more.items ≡ with_call l.measure l.copies (answers_in (take l.answer-index l.answers)) l.x l.call
