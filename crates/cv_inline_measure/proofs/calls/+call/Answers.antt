use Rattle.std.proofs.Common.{ap, ◌∙◌}
use Rattle.std.proofs.lemmas.Result.{IfOk-weaker}
use Rattle.cv_meaning.specs.contexts.Inlined.{index_terms}
use Rattle.cv_inline_measure.specs.Counts.{IsTold}
use Rattle.cv_inline_sites.specs.pairs.Scopes.{scope_at}
use Rattle.cv_inline_measure.specs.Settings.{body_in, call_in}
use Rattle.cv_inline_measure.proofs.Scoped.{call_with, call_without, told_same}
use Rattle.cv_inline_measure.proofs.calls.+call.Goals as goal

pub returns-in_default : goal.returns-in_default
returns-in_default t c =
    let s = c.args.setting.now in
    let k = c.args.caller.now in
    let Σ = scope_at k c.args.scope.now in
    IfOk-weaker c.body.result (λ a. IsTold a (body_in s k Σ c.args.root)) (λ a. IsTold a (call_in s k Σ c.args.binders c.args.terms c.args.root))
    (λ a h. told_same a _ _ (call_without s k Σ c.args.binders c.args.terms c.args.root c.requires.start c.in_default.ensures.argument) h) c.body.ensures

pub returns : goal.returns
returns t c =
    let s = c.args.setting.now in
    let k = c.args.caller.now in
    call_with s k (scope_at k c.args.scope.now) (scope_at k c.as_slice.result.now) c.args.binders c.args.terms c.args.root c.in-Some.first c.extent_below-term.result c.in_ok-inside.inside c.under.result c.in-Some.ensures.argument
    (ap (scope_at k) c.as_slice.ensures.value ∙ c.in_ok-inner.ensures (index_terms k.replications.items)) c.extent_below-term.ensures c.in_ok-inside.ensures c.under.ensures
