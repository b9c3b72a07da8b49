use Rattle.std.proofs.Common.{◌≡◌, ℕ, drop}
use Rattle.cv_inline_laws.specs.extents.Extents as extents
use Rattle.cv_inline_measure.specs.Games.{answers_in}
use Rattle.cv_inline_measure.proofs.game.answer_or.Given as goal

abbrev pub invariant-answers : goal.invariant-answers
invariant-answers l = (n : ℕ) → extents.answer_or n (answers_in (drop l.answer-index l.answers)) l.x ≡ extents.answer_or n (answers_in l.answers) l.x
