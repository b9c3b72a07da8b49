use Rattle.std.proofs.Common.{◌+◌, ◌*◌}
use Rattle.cv_syntax.specs.Walks.{above}
use Rattle.cv_inline_measure.proofs.game.+game.Given as goal

abbrev pub decreases-game : goal.decreases-game
decreases-game l = 4 * above l.part

abbrev pub decreases-below : goal.decreases-below
decreases-below l = 4 * above l.part + 1

abbrev pub decreases-call : goal.decreases-call
decreases-call l = 4 * above l.node.second + 1
