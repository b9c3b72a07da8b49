use Rattle.std.proofs.Common.{sym, subst}
use Rattle.cv_settling_overview.specs.Findings.{IsWay}
use Rattle.cv_settling_overview.proofs.Finding.{way_ends, way_on, way_starts}
use Rattle.cv_settling_overview.proofs.facts.Facts.sides_to.Goals as goal

pub above-init : goal.above-init
above-init c = λ trees facts rs known place t k e.
    let f = c.args.self.now in
    subst (λ ss. IsWay trees facts f.parts.items place c.args.number ss t) (sym c.new-sides.ensures.items) (way_starts trees facts rs known f.indices.items f.facts.items f.parts.items f.conjuncts k place c.args.number t e)

pub above-preserved : goal.above-preserved
above-preserved c = λ trees facts rs known place t k e.
    let f = c.args.self.now in
    let part = c.in-Some.part in
    subst (λ ss. IsWay trees facts f.parts.items place part.above ss t) (sym c.in_ok-push.ensures.items)
    (way_on trees facts rs known f.indices.items f.facts.items f.parts.items f.conjuncts k place c.above.at c.above.sides.items t part c.in-Some.ensures.some (c.above.invariant trees facts rs known place t k e))

pub returns : goal.returns
returns c = λ trees facts rs known place t k e.
    let f = c.args.self.now in
    way_ends trees facts rs known f.indices.items f.facts.items f.parts.items f.conjuncts k place c.above.at c.above.sides.items t c.in_default.ensures.none (c.above.invariant trees facts rs known place t k e)
