use Rattle.std.proofs.Common.{ℕ, ◌++◌, ◌∙◌, ap, codes, arith}
use Rattle.std.specs.declared.alloc.Global.{Global}
use Rattle.std.specs.declared.vec.Vec.{Vec}
use Rattle.cv_report.specs.contexts.Contexts.{parameters_text}
use Rattle.cv_report.proofs.contexts.Marked.{marked_goes, viewed_end}
use Rattle.cv_report.proofs.contexts.contexts.push_more_sites.Goals as goal

pub sites-preserved : goal.sites-preserved
sites-preserved c =
    marked_goes (codes " + ") (λ ns. parameters_text c.args.names.now c.args.order.now ns.items) c.args.sites.now c.sites.k c.index-sites-k.result c.args.out.now.items c.sites.out.items c.extend_from_slice.new.self.items c.push_parameters.new.out.items (omega arith) c.sites.invariant c.in_ok-extend_from_slice.ensures.items
    (c.in_ok-push_parameters.ensures
    ∙ (ap (λ ns. c.extend_from_slice.new.self.items ++ parameters_text c.args.names.now c.args.order.now ns) c.as_slice.ensures.value
    ∙ ap (λ (v : Vec ℕ Global). c.extend_from_slice.new.self.items ++ parameters_text c.args.names.now c.args.order.now v.items) c.index-sites-k.is))

pub returns : goal.returns
returns c =
    viewed_end (λ ns. codes " + " ++ parameters_text c.args.names.now c.args.order.now ns) (λ (v : Vec ℕ Global). v.items) c.args.sites.now c.sites.k c.args.out.now.items c.sites.out.items (omega arith) c.sites.invariant
