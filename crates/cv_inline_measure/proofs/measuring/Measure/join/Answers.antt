use Rattle.std.proofs.Common.{◌≡◌, ap, arith, max, sym, ◌∙◌}
use Rattle.cv_inline_measure.specs.declared.measuring.Measure.{Measure}
use Rattle.cv_inline_measure.specs.Counts.{measure_in}
use Rattle.cv_syntax.specs.limits.Limits.{told}
use Rattle.cv_inline_measure.proofs.measuring.Measure.join.Goals as goal

pub returns-in-Nodes : goal.returns-in-Nodes
returns-in-Nodes c = c.saturating_add.ensures ∙ ap (λ (m : Measure). told ((measure_in m).join c.args.m c.args.n)) (sym c.in-Nodes.is)

pub returns-in-Path : goal.returns-in-Path
returns-in-Path c =
    let e : max c.args.m c.args.n ≡ told (max c.args.m c.args.n) = omega (arith, c.ranges.m.fits, c.ranges.n.fits) in
    c.max.ensures ∙ (e ∙ ap (λ (m : Measure). told ((measure_in m).join c.args.m c.args.n)) (sym c.in-Path.is))
