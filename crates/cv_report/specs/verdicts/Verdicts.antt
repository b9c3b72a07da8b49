-- What a report says of the queries of a file whose proof block was followed. This profile's own.
use Rattle.std.specs.Prelude.{ℕ, suc, List, [], ◌∷◌, Option, Some, None}
use Rattle.cv_bound.specs.declared.terms.Term.{Term}
use Rattle.cv_report.specs.declared.report.Cause.TheVariants.{NoClose}
use Rattle.cv_report.specs.declared.report.Status.{Status}
use Rattle.cv_report.specs.declared.report.Status.TheVariants as status
use Rattle.cv_report.specs.declared.report.Verdict.{Verdict}
use Rattle.cv_report.specs.declared.report.Verdict.TheVariants.{NotProved, Proved}

-- the first query that isn't closed is open, if there is one
abbrev pub ended_with : (unclosed : Option ℕ) → Status
ended_with None = status.Proved
ended_with (Some k) = status.Open (NoClose k)

-- the verdicts on queries, numbered from a number on: a query that is closed is proved up to its sum

abbrev pub verdict_by : Option (List Term) → Verdict
verdict_by None = NotProved
verdict_by (Some sum) = Proved sum

abbrev pub verdicts_by : {Q : Type 0} → (sum : ℕ → Option (List Term)) → (number : ℕ) → (queries : List Q) → List Verdict
verdicts_by sum k [] = []
verdicts_by sum k (q ∷ qs) = verdict_by (sum k) ∷ verdicts_by sum (suc k) qs
