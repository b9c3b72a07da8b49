use Rattle.std.proofs.Common.{ap, sym, ◌∙◌}
use Rattle.cv_inline_measure.specs.declared.measuring.Measure.{Measure}
use Rattle.cv_inline_measure.specs.Counts.{measure_in}
use Rattle.cv_syntax.specs.limits.Limits.{told}
use Rattle.cv_inline_measure.proofs.measuring.Measure.along.Goals as goal

pub returns-in-Nodes : goal.returns-in-Nodes
returns-in-Nodes c = c.saturating_mul.ensures ∙ ap (λ (m : Measure). told ((measure_in m).along c.args.part c.args.copies)) (sym c.in-Nodes.is)

pub returns-in-Path : goal.returns-in-Path
returns-in-Path c = c.saturating_add.ensures ∙ ap (λ (m : Measure). told ((measure_in m).along c.args.part c.args.copies)) (sym c.in-Path.is)
