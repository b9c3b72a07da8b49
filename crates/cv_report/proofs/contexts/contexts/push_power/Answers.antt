use Rattle.std.proofs.Common.{◌++◌, ◌∙◌, ap, codes}
use Rattle.std.proofs.lemmas.Result.{on_ok_weaker}
use Rattle.std.specs.Fmt.{decimal}
use Rattle.cv_report.proofs.contexts.Powers.{powered, powered_alone}
use Rattle.cv_report.proofs.contexts.contexts.push_power.Goals as goal

pub returns-then-factor-eq1 : goal.returns-then-factor-eq1
returns-then-factor-eq1 c =
    c.in_ok-push_name.ensures ∙ powered_alone c.args.names.now c.args.factor c.args.out.now.items c.if-factor-eq1.true

pub returns : goal.returns
returns c =
    on_ok_weaker c.push_decimal.result
    (λ e. e ∙ (ap (λ t. t ++ decimal c.args.factor.1) (c.in_ok-extend_from_slice.ensures.items ∙ ap (λ t. t ++ codes "^") c.in_ok-push_name.ensures) ∙ powered c.args.names.now c.args.factor c.args.out.now.items c.if-factor-eq1.false))
    c.push_decimal.ensures
