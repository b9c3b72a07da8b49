use Rattle.std.proofs.Common.{refl, subst}
use Rattle.cv_settling_overview.specs.Facts.{Cites}
use Rattle.cv_settling_overview.proofs.Finding.{if_none_is, if_some_is}
use Rattle.cv_settling_overview.proofs.facts.Facts.equated_at.Goals as goal

pub returns-in-Some-clause-some : goal.returns-in-Some-clause-some
returns-in-Some-clause-some c = λ trees facts rs known there a b keeps e t.
    let cites = subst (Cites trees facts c.in-Some.citation) t (if_some_is _ c.in_ok-found.found c.in-Some.citation c.in_ok-found.ensures.some c.in-Some.is trees facts rs known there keeps e) in
    record { turned = refl; equation = c.conjunct-equation.ensures trees facts a b cites; cites = cites }

pub returns-in-None-clause-none : goal.returns-in-None-clause-none
returns-in-None-clause-none c = if_none_is _ c.in_ok-found.found c.in_ok-found.ensures.none c.in-None.is
