use Rattle.std.proofs.Common.{◌≡◌, ◌++◌, map, take}
use Rattle.std.specs.Prelude.{flat_map}
use Rattle.cv_syntax.specs.PoolTrees.{tree_at}
use Rattle.cv_inline.specs.Draws.{index_draws}
use Rattle.cv_inline_sites.specs.listing.Callings.{callers_in}
use Rattle.cv_inline_sites.specs.listing.Listed.{draw_in}
use Rattle.cv_inline_draws.proofs.sites.draws.add_find_indices.Given as goal

abbrev pub invariant-loop-calling : goal.invariant-loop-calling
invariant-loop-calling l =
    map draw_in l.draws.items ≡ map draw_in l.fn.draws.items ++ flat_map (λ s. index_draws l.site l.place s 0 (tree_at l.pool.trees l.branches)) (callers_in l.pool.trees (take l.calling-index l.callings))
