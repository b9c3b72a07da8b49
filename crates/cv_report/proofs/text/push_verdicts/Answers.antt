use Rattle.std.proofs.Common.{◌+◌, ◌++◌, ◌∙◌, ap, arith}
use Rattle.cv_report.specs.Text.{verdict_text}
use Rattle.cv_report.proofs.Texts.{verdict_goes, verdicts_end}
use Rattle.cv_report.proofs.text.push_verdicts.Goals as goal

pub verdicts-preserved : goal.verdicts-preserved
verdicts-preserved c = verdict_goes _ c.args.verdicts.now c.verdicts.k c.index-verdicts-k.result _ _ _ (omega arith) c.verdicts.invariant (c.in_ok-push_verdict.ensures ∙ ap (λ v. c.verdicts.out.items ++ verdict_text c.args.names.now (c.verdicts.k + 1) v) c.index-verdicts-k.is)

pub returns : goal.returns
returns c = verdicts_end _ c.args.verdicts.now c.verdicts.k _ _ _ (omega arith) c.verdicts.invariant
