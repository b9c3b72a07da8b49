use Rattle.cv_syntax.specs.Walks.{above}
use Rattle.cv_inline_measure.proofs.game.+with_answers.Given as goal

abbrev pub decreases-with_answers : goal.decreases-with_answers
decreases-with_answers l = above l.term
