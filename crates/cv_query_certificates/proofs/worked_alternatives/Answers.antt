use Rattle.std.proofs.Common.{◌≡◌, Option, Some, None, refl, sym, ◌∙◌}
use Rattle.cv_query_certificates.specs.Failures.{Failure}
use Rattle.cv_query_certificates.proofs.Judged.{one_above_judged, two_branches_judged}
use Rattle.cv_query_certificates.proofs.worked_alternatives.Goals as goal

some_none : (f : Failure) → ◌≡◌ {A = Option Failure} (Some f) None → ⊥
some_none f e = cc

pub returns-clause-chosen : goal.returns-clause-chosen
returns-clause-chosen c = two_branches_judged

pub returns-clause-shared : goal.returns-clause-shared
returns-clause-shared c = one_above_judged

pub returns-clause-accepted : goal.returns-clause-accepted
returns-clause-accepted c = (c.accepted_exactly_where_nothing_fails.ensures _ _ _ refl).1 two_branches_judged.0

pub returns-clause-unpaired : goal.returns-clause-unpaired
returns-clause-unpaired c = λ a. some_none _ (sym two_branches_judged.1.1.1.1.1.1.1.1.1.0 ∙ (c.accepted_exactly_where_nothing_fails.ensures _ _ _ refl).0 a)
