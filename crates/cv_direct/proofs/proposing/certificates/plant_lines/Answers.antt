use Rattle.std.proofs.Common.{length}
use Rattle.cv_direct.proofs.Below.{slice_below}
use Rattle.cv_direct.proofs.proposing.certificates.plant_lines.Goals as goal

pub returns-clause-below : goal.returns-clause-below
returns-clause-below c =
    λ n h. c.in_ok-lines.ensures n (slice_below (length c.plant_terms.new.pool.trees) n c.in_ok-nodes.nodes.items c.deref.result.now c.deref.ensures.value h c.in_ok-nodes.ensures.live)
