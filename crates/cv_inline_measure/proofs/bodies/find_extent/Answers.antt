use Rattle.std.proofs.Common.{refl}
use Rattle.cv_inline_laws.specs.extents.Extents.{all_beside}
use Rattle.cv_inline_measure.specs.Counts.{measure_in}
use Rattle.cv_inline_measure.proofs.Branching.{found_any, found_none}
use Rattle.cv_inline_measure.proofs.bodies.find_extent.Goals as goal

pub returns-then-found : goal.returns-then-found
returns-then-found c es o h =
    let s = c.args.setting.now in
    found_any s c.args.found es o _ h c.if-found.true (c.under.ensures 0 (all_beside (measure_in s.measure) es o) refl h.all)

pub returns-else-found : goal.returns-else-found
returns-else-found c es o h = found_none c.args.setting.now c.args.found es o h c.if-found.false
