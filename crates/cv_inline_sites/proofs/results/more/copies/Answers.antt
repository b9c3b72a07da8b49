use Rattle.std.proofs.Common.{◌<◌, length, ap, arith, refl, subst, sym, ◌∙◌}
use Rattle.cv_inline_sites.specs.results.Outcomes.{IsLiveOutcome}
use Rattle.cv_inline.specs.terms.Scopes.{scope_in}
use Rattle.cv_inline_sites.proofs.results.Newest.{copies_more, live_push}
use Rattle.cv_inline_sites.proofs.results.more.copies.Goals as goal

pub results-preserved : goal.results-preserved
results-preserved c =
    let h : c.results.k < length c.args.results.now = omega arith in
    let x = c.index-results-k.result in
    record {
      same = λ trees d callings.
          copies_more trees d callings c.results.copies.items c.push.new.self.items c.args.results.now c.results.k _ x c.in_ok-push.ensures.items h c.index-results-k.is refl refl refl (λ here. c.in_ok-scope.ensures here ∙ ap (scope_in here) c.as_slice.ensures.value) (c.results.invariant.same trees d callings);
      live = λ live all. live_push live c.results.copies.items c.push.new.self.items _ c.in_ok-push.ensures.items (c.results.invariant.live live all) (subst (IsLiveOutcome live) (sym c.index-results-k.is) (all c.results.k x h));
    }
