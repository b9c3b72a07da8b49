use Rattle.std.proofs.Common.{◌≡◌, Option, Some, None, refl, sym, ◌∙◌}
use Rattle.cv_syntax_trees.specs.Tree.{reads_only}
use Rattle.cv_query_certificates.specs.Failures.{Failure}
use Rattle.cv_query_certificates.proofs.Judged.{cells_judged, direct_judged, two_sites_judged}
use Rattle.cv_query_certificates.proofs.worked_certificates.Goals as goal

some_none : (f : Failure) → ◌≡◌ {A = Option Failure} (Some f) None → ⊥
some_none f e = cc

pub returns-clause-direct : goal.returns-clause-direct
returns-clause-direct c = direct_judged

pub returns-clause-cells : goal.returns-clause-cells
returns-clause-cells c = cells_judged

pub returns-clause-two_sites : goal.returns-clause-two_sites
returns-clause-two_sites c = two_sites_judged

pub returns-clause-above : goal.returns-clause-above
unfolding reads_only
returns-clause-above c = (c.accepted_exactly_where_nothing_fails.ensures _ _ _ refl).1 direct_judged.0

pub returns-clause-cell : goal.returns-clause-cell
unfolding reads_only
returns-clause-cell c = (c.accepted_exactly_where_nothing_fails.ensures _ _ _ refl).1 cells_judged.0

pub returns-clause-other : goal.returns-clause-other
unfolding reads_only
returns-clause-other c = λ a. some_none _ (sym two_sites_judged.0 ∙ (c.accepted_exactly_where_nothing_fails.ensures _ _ _ refl).0 a)

pub returns-clause-never : goal.returns-clause-never
unfolding reads_only
returns-clause-never c = λ a. some_none _ (sym direct_judged.1.1.1.1.1.1.1.1.1.1.1.0 ∙ (c.accepted_exactly_where_nothing_fails.ensures _ _ _ refl).0 a)

pub returns-clause-once : goal.returns-clause-once
unfolding reads_only
returns-clause-once c = (c.accepted_exactly_where_nothing_fails.ensures _ _ _ refl).1 direct_judged.1.1.1.1.1.1.1.1.1.1.1.1.1.1.1.1.1.0

pub returns-clause-unpaired : goal.returns-clause-unpaired
unfolding reads_only
returns-clause-unpaired c = λ a. some_none _ (sym direct_judged.1.1.1.1.1.1.1.1.1.1.1.1.1.1.1.1.0 ∙ (c.accepted_exactly_where_nothing_fails.ensures _ _ _ refl).0 a)
