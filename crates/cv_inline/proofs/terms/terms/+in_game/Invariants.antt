use Rattle.cv_syntax.specs.Walks.{above}
use Rattle.cv_inline.proofs.terms.terms.+in_game.Given as goal

abbrev pub decreases-in_game : goal.decreases-in_game
decreases-in_game l = above l.term
