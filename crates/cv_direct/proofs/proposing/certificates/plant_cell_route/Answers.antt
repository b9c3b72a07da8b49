use Rattle.std.proofs.Common.{length}
use Rattle.cv_direct.proofs.Below.{slice_below}
use Rattle.cv_direct.proofs.proposing.certificates.plant_cell_route.Goals as goal

pub returns-clause-below : goal.returns-clause-below
returns-clause-below c =
    λ n h.
    let below = slice_below (length c.plant_terms.new.pool.trees) n c.in_ok-nodes.nodes.items in (
      c.in_ok-cell.ensures n (below c.deref.result.now c.deref.ensures.value h c.in_ok-nodes.ensures.live),
      c.in_ok-lines.ensures n (below c.deref-2.result.now c.deref-2.ensures.value h c.in_ok-nodes.ensures.live),
    )
