use Rattle.std.proofs.Common.{sym, ◌∙◌, subst}
use Rattle.cv_settling_overview.specs.Keys.{AreKeysPlaced}
use Rattle.cv_settling_overview.proofs.Placing.{key_other, key_past, key_there, key_unknown}
use Rattle.cv_settling_overview.proofs.keys.Conjuncts.place.Goals as goal

pub returns-then-eq-clause-some : goal.returns-then-eq-clause-some
returns-then-eq-clause-some c = key_there c.args.self.now c.in-Some.k c.in-Some-at.there c.args.key (sym c.at.ensures ∙ c.in-Some-at.is) (sym c.eq.ensures ∙ c.if-eq.true)

pub returns-else-eq-clause-none : goal.returns-else-eq-clause-none
returns-else-eq-clause-none c =
    let placed = subst (λ cs. AreKeysPlaced cs c.self.inside.places) c.self.view_is c.self.invariant in
    key_other c.args.self.now c.self.inside.places c.args.key c.in-Some.k c.in-Some-at.there placed (sym c.get.ensures.value ∙ (sym c.copied.ensures ∙ c.in-Some.is)) (sym c.at.ensures ∙ c.in-Some-at.is) (sym c.eq.ensures ∙ c.if-eq.false)

pub returns-in-None-clause-none : goal.returns-in-None-clause-none
returns-in-None-clause-none c =
    let placed = subst (λ cs. AreKeysPlaced cs c.self.inside.places) c.self.view_is c.self.invariant in
    key_past c.args.self.now c.self.inside.places c.args.key c.in-Some.k placed (sym c.get.ensures.value ∙ (sym c.copied.ensures ∙ c.in-Some.is)) (sym c.at.ensures ∙ c.in-None.is)

pub returns-in_default-clause-none : goal.returns-in_default-clause-none
returns-in_default-clause-none c =
    let placed = subst (λ cs. AreKeysPlaced cs c.self.inside.places) c.self.view_is c.self.invariant in
    key_unknown c.args.self.now c.self.inside.places c.args.key placed (sym c.get.ensures.value ∙ (sym c.copied.ensures ∙ c.in_default.is))
