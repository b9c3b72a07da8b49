-- What the costs of steps add up to: for a correspondence, and for a query of secrecy, where a collision counts twice and an advantage
-- stands once for each experiment. Blanchet, TDSC 2008.
use Rattle.std.specs.Prelude.{Bool, true, false, [], List}
use Rattle.cv_bound.specs.Sums.{AllFit, added}
use Rattle.cv_bound.specs.declared.cost.Cost.{Cost}
use Rattle.cv_bound.specs.declared.terms.Term.{Term}
use Rattle.cv_bound.specs.declared.costs.sums.Sums.{Sums}

abbrev pub no_sums : Sums
no_sums = record { plain = []; secret = [] }

abbrev pub with_cost : Sums → Cost → Sums
with_cost s c = record { plain = added s.plain c false; secret = added s.secret c true }

-- that of a query of secrecy, or of another one
abbrev pub sum_for : (secrecy : Bool) → Sums → List Term
sum_for true s = s.secret
sum_for false s = s.plain

abbrev pub SumsFit : Sums → Type 0
SumsFit s = AllFit s.plain × AllFit s.secret
