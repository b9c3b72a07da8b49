use Rattle.std.proofs.Common.{refl, sym, ◌∙◌}
use Rattle.cv_settling_overview.proofs.Finding.{cites_condition, no_condition}
use Rattle.cv_settling_overview.proofs.facts.Facts.cited_at.Goals as goal

pub returns-in_default-condition-clause-none : goal.returns-in_default-condition-clause-none
returns-in_default-condition-clause-none c = λ trees facts rs known there keeps e.
    let f = c.args.self.now in
    no_condition trees facts rs known f.indices.items f.facts.items f.parts.items f.conjuncts keeps c.args.k c.in-Some.conjunct there (sym c.at.ensures ∙ c.in-Some.is) e (sym c.condition.ensures ∙ c.in_default-condition.is)

pub returns-clause-some : goal.returns-clause-some
returns-clause-some c = λ trees facts rs known there keeps e.
    let f = c.args.self.now in
    cites_condition trees facts rs known f.indices.items f.facts.items f.parts.items f.conjuncts keeps c.args.k c.in-Some.conjunct there _ (sym c.at.ensures ∙ c.in-Some.is) e (sym c.condition.ensures ∙ c.in-Some-condition.is) refl
    (λ t u. c.in_ok-sides.ensures trees facts rs known c.in-Some.conjunct.fact t keeps u)
