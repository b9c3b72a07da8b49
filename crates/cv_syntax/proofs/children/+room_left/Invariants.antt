use Rattle.cv_syntax.specs.Walks.{above}
use Rattle.cv_syntax.proofs.children.+room_left.Given as goal

abbrev pub decreases-room_left : goal.decreases-room_left
decreases-room_left l = above l.part
