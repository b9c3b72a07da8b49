use Rattle.std.proofs.Common.{Some, sym, ◌∙◌, arith}
use Rattle.cv_syntax.proofs.Walking.{size_end, size_same}
use Rattle.cv_settling_lateness.proofs.Keeping.{size_found}
use Rattle.cv_settling_lateness.proofs.sizes.Sizes.size.Goals as goal

pub returns-in_default : goal.returns-in_default
returns-in_default c a b = sym (size_end c.args.pool.now.trees c.args.child c.in_default.is)

pub returns-in-Some-get : goal.returns-in-Some-get
returns-in-Some-get c a b =
    let trees = c.args.pool.now.trees in
    size_found trees c.args.self.now a c.in-Some.n c.in-Some-get.size.now (sym c.in-Some-get.ensures.value) ∙ sym (size_same trees c.args.child (Some c.in-Some.n) c.in-Some.is)

pub returns-in-None : goal.returns-in-None
returns-in-None c a b =
    let e = size_same c.args.pool.now.trees c.args.child (Some c.in-Some.n) c.in-Some.is in
    c.nodes_up_to.ensures.few (omega (arith, c.nodes_up_to.ensures.least, b, e)) (omega arith) ∙ sym e
