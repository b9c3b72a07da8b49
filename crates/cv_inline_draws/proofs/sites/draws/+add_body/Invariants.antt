use Rattle.std.proofs.Common.{◌≡◌, ◌++◌, map, take}
use Rattle.std.specs.Prelude.{flat_map}
use Rattle.cv_syntax.specs.Walks.{above}
use Rattle.cv_inline_sites.specs.listing.Callings.{callers_in}
use Rattle.cv_inline_sites.specs.listing.Listed.{draw_in}
use Rattle.cv_inline_draws.specs.sites.Parts.{draws_at}
use Rattle.cv_inline_draws.proofs.sites.draws.+add_body.Given as goal

abbrev pub decreases-add_body : goal.decreases-add_body
decreases-add_body l = above l.body.root

abbrev pub invariant-loop-inner : goal.invariant-loop-inner
invariant-loop-inner l =
    map draw_in l.draws.items ≡ map draw_in l.initial.draws.items ++ flat_map (draws_at l.pool.trees (callers_in l.pool.trees l.callings) l.site) (take l.inner-index l.inner-items)
