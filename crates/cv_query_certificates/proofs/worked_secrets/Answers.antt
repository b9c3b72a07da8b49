use Rattle.std.proofs.Common.{◌≡◌, Option, Some, None, inr, refl, sym, ◌∙◌}
use Rattle.cv_query_certificates.specs.Failures.{Failure}
use Rattle.cv_query_certificates.proofs.Judged.{copies_unread, secrets_judged}
use Rattle.cv_query_certificates.proofs.worked_secrets.Goals as goal

some_none : (f : Failure) → ◌≡◌ {A = Option Failure} (Some f) None → ⊥
some_none f e = cc

pub returns-clause-fails : goal.returns-clause-fails
returns-clause-fails c = secrets_judged

pub returns-clause-accepted : goal.returns-clause-accepted
returns-clause-accepted c = (c.accepted_exactly_where_nothing_fails.ensures _ _ _ refl).1 secrets_judged.0.0

pub returns-clause-read : goal.returns-clause-read
returns-clause-read c = λ a. some_none _ (sym secrets_judged.1.0.0 ∙ (c.accepted_exactly_where_nothing_fails.ensures _ _ _ refl).0 a)

pub returns-clause-copied : goal.returns-clause-copied
returns-clause-copied c = λ a. some_none _ (sym secrets_judged.1.1.1.1.0.0 ∙ (c.accepted_exactly_where_nothing_fails.ensures _ _ _ refl).0 a)

pub returns-clause-once : goal.returns-clause-once
returns-clause-once c = record { proof = inr copies_unread }

pub returns-clause-paired : goal.returns-clause-paired
returns-clause-paired c = (c.accepted_exactly_where_nothing_fails.ensures _ _ _ refl).1 secrets_judged.1.1.1.1.1.0.0
