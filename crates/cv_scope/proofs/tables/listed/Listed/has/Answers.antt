use Rattle.std.proofs.Common.{sym, ◌∙◌, subst}
use Rattle.cv_scope.specs.tables.Ordered.{AreNumbersPlaced}
use Rattle.cv_scope.proofs.tables.Listing.{number_past, number_there, number_unknown}
use Rattle.cv_scope.proofs.tables.listed.Listed.has.Goals as goal

pub returns-in-Some-at : goal.returns-in-Some-at
returns-in-Some-at c =
    let placed = subst (λ cells. AreNumbersPlaced cells c.self.inside.places) c.self.view_is c.self.invariant in
    number_there c.args.self.now c.self.inside.places c.args.node.0 c.in-Some.k c.in-Some-at.there placed (sym c.get.ensures.value ∙ (sym c.copied.ensures ∙ c.in-Some.is)) (sym c.at.ensures ∙ c.in-Some-at.is)

pub returns-in-None : goal.returns-in-None
returns-in-None c =
    let placed = subst (λ cells. AreNumbersPlaced cells c.self.inside.places) c.self.view_is c.self.invariant in
    number_past c.args.self.now c.self.inside.places c.args.node.0 c.in-Some.k placed (sym c.get.ensures.value ∙ (sym c.copied.ensures ∙ c.in-Some.is)) (sym c.at.ensures ∙ c.in-None.is)

pub returns-in_default : goal.returns-in_default
returns-in_default c =
    let placed = subst (λ cells. AreNumbersPlaced cells c.self.inside.places) c.self.view_is c.self.invariant in
    number_unknown c.args.self.now c.self.inside.places c.args.node.0 placed (sym c.get.ensures.value ∙ (sym c.copied.ensures ∙ c.in_default.is))
