use Rattle.cv_syntax.specs.Walks.{above}
use Rattle.cv_inline_walk.proofs.pieces.calls.+call.Given as goal

abbrev pub decreases-call : goal.decreases-call
decreases-call l = above l.binders
