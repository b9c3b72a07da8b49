use Rattle.std.proofs.Common.{◌∙◌, ap, arith}
use Rattle.cv_report.specs.Printed.{counted, counted_with}
use Rattle.cv_report.proofs.Counts.{counted_end, counted_goes}
use Rattle.cv_report.proofs.printed.count_verdicts.Goals as goal

pub verdicts-preserved : goal.verdicts-preserved
verdicts-preserved c =
    counted_goes c.verdicts.counts c.count_verdict-counts.result (counted (0, 0) c.args.verdicts.now) c.args.verdicts.now c.verdicts.k c.index-verdicts-k.result (omega arith) c.verdicts.invariant
    (c.count_verdict-counts.ensures ∙ ap (counted_with c.verdicts.counts) c.index-verdicts-k.is)

pub returns : goal.returns
returns c = counted_end c.verdicts.counts (counted (0, 0) c.args.verdicts.now) c.args.verdicts.now c.verdicts.k (omega arith) c.verdicts.invariant
