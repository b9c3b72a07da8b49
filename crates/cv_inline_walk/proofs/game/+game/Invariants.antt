use Rattle.std.proofs.Common.{◌≡◌, ◌+◌, ◌*◌, take}
use Rattle.cv_syntax.specs.Walks.{above}
use Rattle.cv_meaning.specs.contexts.Groups.{Group}
use Rattle.cv_inline.specs.terms.Drawings.{drawn_in}
use Rattle.cv_inline.specs.terms.Stacks.{stack}
use Rattle.cv_inline_walk.specs.pieces.Pieces.{pieced}
use Rattle.cv_inline_walk.specs.Steps.{HasRightKey, goes_on}
use Rattle.cv_inline_walk.proofs.game.+game.Given as goal

abbrev pub decreases-game : goal.decreases-game
decreases-game l = 8 * above l.part

abbrev pub decreases-add_first : goal.decreases-add_first
decreases-add_first l = 8 * above l.part + 1

abbrev pub decreases-go_on : goal.decreases-go_on
decreases-go_on l = 8 * above l.call.rest + 1

abbrev pub decreases-add_piece : goal.decreases-add_piece
decreases-add_piece l = 8 * above l.call.rest + 2

abbrev pub decreases-add_call : goal.decreases-add_call
decreases-add_call l = 8 * above l.node.second + 3

abbrev pub invariant-add_call-pieces : goal.invariant-add_call-pieces
invariant-add_call-pieces l =
    (g : Group) → HasRightKey l.step g → stack l.parts.items ≡ pieced l.step.pool.now.trees (drawn_in l.step.drawn.now) l.step.callings.now l.calling.caller (goes_on l.step g l.results l.call) (stack l.initial.parts.items) (take l.piece-index l.piece-items)
