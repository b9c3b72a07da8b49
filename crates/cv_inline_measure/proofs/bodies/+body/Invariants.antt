use Rattle.std.proofs.Common.{◌+◌, ◌*◌, ◌++◌, List, [], map, max, take}
use Rattle.std.specs.Prelude.{flat_map}
use Rattle.cv_syntax.specs.Walks.{above}
use Rattle.cv_inline_laws.specs.extents.Extents.{Extent}
use Rattle.cv_inline_sites.specs.listing.Callings.{callers_in}
use Rattle.cv_inline.specs.terms.Drawings.{drawn_in}
use Rattle.cv_inline_sites.specs.pairs.Pairs.{pair_in}
use Rattle.cv_inline_sites.specs.pairs.Scopes.{scope_at}
use Rattle.cv_inline_measure.specs.Settings.{IsFound, branches_in, caller_at, callers_at, measure_of, trees_of}
use Rattle.cv_inline_measure.proofs.Branching.{of_pair}
use Rattle.cv_inline_measure.proofs.bodies.+body.Given as goal

abbrev pub decreases-body : goal.decreases-body
decreases-body l = 4 * above l.root.root

abbrev pub decreases-branch : goal.decreases-branch
decreases-branch l = 4 * above l.pair.body + 1

abbrev pub decreases-site_branches : goal.decreases-site_branches
decreases-site_branches l = 4 * above l.list.root

abbrev pub decreases-find : goal.decreases-find
decreases-find l = 4 * max (above l.list.root) (above l.otherwise.root) + 1

abbrev pub decreases-bound_body : goal.decreases-bound_body
decreases-bound_body l = 4 * above l.root.root + 1

abbrev pub decreases-test : goal.decreases-test
decreases-test l = 4 * above l.node.second.root + 1

abbrev pub invariant-site_branches-pairs : goal.invariant-site_branches-pairs
invariant-site_branches-pairs l =
    (es : List Extent) (o : Extent) → IsFound l.setting l.fn.found es o → IsFound l.setting l.all
    (es ++ map (of_pair (measure_of l.setting) (drawn_in l.setting.drawn.now) (callers_at l.setting) (caller_at l.setting l.caller) (scope_at l.caller l.scope) l.place (caller_at l.setting l.other)) (map (pair_in (trees_of l.setting)) (take l.pair-index l.pair-items))) o

abbrev pub invariant-find-sites : goal.invariant-find-sites
invariant-find-sites l =
    (o : Extent) → IsFound l.setting l.initial.found [] o → IsFound l.setting l.found (flat_map (λ b. branches_in l.setting l.caller (scope_at l.caller l.scope) l.place b l.list) (callers_in (trees_of l.setting) (take l.calling-index l.callings))) o
