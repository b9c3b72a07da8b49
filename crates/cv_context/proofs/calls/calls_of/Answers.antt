use Rattle.std.proofs.Common.{arith, ap, subst, sym, ◌∙◌}
use Rattle.cv_context.specs.Roles.{IsLiveCall, reads_of}
use Rattle.cv_context.proofs.Called.{one_live, one_same}
use Rattle.cv_context.proofs.calls.calls_of.Goals as goal

pub sites-preserved : goal.sites-preserved
sites-preserved c =
    let ss = c.args.sites.now in
    record {
      same = λ trees. one_same trees ss c.sites.k c.index-sites-k.result c.sites.calls.items c.push.new.self.items c.in_ok-call.call (omega arith) (c.sites.invariant.same trees) (c.in_ok-call.ensures.same trees ∙ ap (reads_of trees) c.index-sites-k.is) c.in_ok-push.ensures.items;
      live = λ n e. one_live n c.sites.calls.items c.push.new.self.items c.in_ok-call.call (c.sites.invariant.live n e) (c.in_ok-call.ensures.live n (subst (IsLiveCall n) (sym c.index-sites-k.is) (e c.sites.k c.index-sites-k.result (omega arith)))) c.in_ok-push.ensures.items;
    }
