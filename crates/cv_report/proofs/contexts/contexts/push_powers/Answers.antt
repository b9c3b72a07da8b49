use Rattle.std.proofs.Common.{◌++◌, codes, arith}
use Rattle.cv_bound.specs.Texts.{power_text}
use Rattle.cv_report.proofs.contexts.Marked.{marked_end, marked_goes}
use Rattle.cv_report.proofs.contexts.contexts.push_powers.Goals as goal

pub factors-preserved : goal.factors-preserved
factors-preserved c =
    marked_goes (codes "*") (power_text c.args.names.now) c.args.factors.now c.factors.k (record { 0 = 0 }, 0) c.args.out.now.items c.factors.out.items c.extend_from_slice.new.self.items c.push_power.new.out.items (omega arith) c.factors.invariant c.in_ok-extend_from_slice.ensures.items c.in_ok-push_power.ensures

pub returns : goal.returns
returns c =
    marked_end (λ f. codes "*" ++ power_text c.args.names.now f) c.args.factors.now c.factors.k c.args.out.now.items c.factors.out.items (omega arith) c.factors.invariant
