use Rattle.std.proofs.Common.{◌+◌, ◌*◌, map, max, take}
use Rattle.cv_syntax.specs.Walks.{above}
use Rattle.cv_inline.specs.terms.Drawings.{drawn_in}
use Rattle.cv_inline_walk.specs.pieces.Calls.{branch_in}
use Rattle.cv_inline_walk.specs.pieces.Choices.{onto}
use Rattle.cv_inline_sites.specs.pairs.Scopes.{scope_at}
use Rattle.cv_inline_walk.specs.pieces.Pieces.{Adds}
use Rattle.cv_inline_walk.proofs.pieces.bodies.+body.Given as goal

abbrev pub decreases-body : goal.decreases-body
decreases-body l = 2 * above l.root.root

abbrev pub decreases-bound_body : goal.decreases-bound_body
decreases-bound_body l = 2 * above l.root.root + 1

abbrev pub decreases-if_body : goal.decreases-if_body
decreases-if_body l = 2 * above l.node.second.root + 1

abbrev pub decreases-find_body : goal.decreases-find_body
decreases-find_body l = 2 * max (above l.list.root) (above l.otherwise.root) + 1

abbrev pub decreases-branches : goal.decreases-branches
decreases-branches l = 2 * above l.list.root

abbrev pub decreases-branch : goal.decreases-branch
decreases-branch l = 2 * above l.choice.pair.body + 1

abbrev pub invariant-branches-branches : goal.invariant-branches-branches
invariant-branches-branches l =
    Adds l.pool.trees (drawn_in l.drawn) l.callings l.caller l.fn.pieces.items l.pieces.items (λ k ts. onto (map (branch_in l.pool.trees (drawn_in l.drawn) l.callings l.caller (scope_at l.caller l.scope) l.place k) (take l.choice-index l.choices)) ts)
