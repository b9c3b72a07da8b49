use Rattle.std.proofs.Common.{sym, ◌∙◌, subst}
use Rattle.cv_scope.specs.tables.Ordered.{IsPlaced}
use Rattle.cv_scope.proofs.tables.Stacks.{has_some, has_past, has_none}
use Rattle.cv_scope.proofs.tables.defined.Defined.has.Goals as goal

pub returns-in-Some-at : goal.returns-in-Some-at
returns-in-Some-at c =
    let placed = subst (λ ds. IsPlaced ds c.self.inside.places) c.self.view_is c.self.invariant in
    has_some c.args.self.now c.self.inside.places (c.args.variable, c.args.indices) c.in-Some.k c.in-Some-at.there c.eq.result placed (sym c.get.ensures ∙ c.in-Some.is) (sym c.at.ensures ∙ c.in-Some-at.is) c.eq.ensures

pub returns-in-None : goal.returns-in-None
returns-in-None c =
    let placed = subst (λ ds. IsPlaced ds c.self.inside.places) c.self.view_is c.self.invariant in
    has_past c.args.self.now c.self.inside.places (c.args.variable, c.args.indices) c.in-Some.k placed (sym c.get.ensures ∙ c.in-Some.is) (sym c.at.ensures ∙ c.in-None.is)

pub returns-in_default : goal.returns-in_default
returns-in_default c =
    let placed = subst (λ ds. IsPlaced ds c.self.inside.places) c.self.view_is c.self.invariant in
    has_none c.args.self.now c.self.inside.places (c.args.variable, c.args.indices) placed (sym c.get.ensures ∙ c.in_default.is)
