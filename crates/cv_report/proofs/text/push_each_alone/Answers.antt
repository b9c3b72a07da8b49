use Rattle.std.proofs.Common.{◌++◌, ◌∙◌, ap, arith}
use Rattle.cv_report.specs.Text.{alone_text}
use Rattle.cv_report.proofs.contexts.Marked.{each_goes, marked_end}
use Rattle.cv_report.proofs.text.push_each_alone.Goals as goal

pub verdicts-preserved : goal.verdicts-preserved
verdicts-preserved c =
    let text = alone_text c.args.names.now c.args.number in
    each_goes text c.args.verdicts.now c.verdicts.k c.index-verdicts-k.result c.args.out.now.items c.verdicts.out.items c.push_alone.new.out.items (omega arith) c.verdicts.invariant
    (c.in_ok-push_alone.ensures ∙ ap (λ v. c.verdicts.out.items ++ text v) c.index-verdicts-k.is)

pub returns : goal.returns
returns c =
    marked_end (alone_text c.args.names.now c.args.number) c.args.verdicts.now c.verdicts.k c.args.out.now.items c.verdicts.out.items (omega arith) c.verdicts.invariant
