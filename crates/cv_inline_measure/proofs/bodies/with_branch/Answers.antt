use Rattle.cv_inline_laws.specs.extents.Extents.{all_beside}
use Rattle.cv_inline_measure.specs.Counts.{measure_in}
use Rattle.cv_inline_measure.proofs.Branching.{found_more}
use Rattle.cv_inline_measure.proofs.bodies.with_branch.Goals as goal

pub returns : goal.returns
returns c es o e h t =
    let s = c.args.setting.now in
    found_more s es e o _ (c.beside.ensures e (all_beside (measure_in s.measure) es o) t h.all)
