use Rattle.std.proofs.Common.{arith, length}
use Rattle.cv_pool.proofs.Growth.{Grows_length}
use Rattle.cv_direct.proofs.Below.{slice_below}
use Rattle.cv_direct.proofs.proposing.certificates.plant_with.Goals as goal

pub returns-clause-below : goal.returns-clause-below
returns-clause-below c =
    λ n h.
    let now = c.plant_terms.new.pool in
    let longer = Grows_length c.plant_routes.new.pool now c.plant_terms.ensures.grows in (
      c.in_ok-terms.ensures n (slice_below (length now.trees) n c.in_ok-nodes.nodes.items c.deref.result.now c.deref.ensures.value h c.in_ok-nodes.ensures.live),
      c.in_ok-routes.ensures.below n (omega (arith, h, longer)),
    )
