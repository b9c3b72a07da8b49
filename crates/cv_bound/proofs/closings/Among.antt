-- A query has a sum exactly where its number is among those of the closed ones.
use Rattle.std.proofs.Common.{◌≡◌, ℕ, ◌||◌, ◌==◌, Bool, true, false, if◌then◌else◌, List, [], ◌∷◌, refl, Option, Some, None, is_some}
use Rattle.std.specs.Prelude.{option_map}
use Rattle.cv_bound.specs.declared.terms.Term.{Term}
use Rattle.cv_bound.specs.declared.closings.queries.ClosedQuery.{ClosedQuery}
use Rattle.cv_bound.specs.closings.Queries.{is_among, numbers_of, sum_in}

among_by : (b x : Bool) (s : List Term) (o : Option (List Term)) → x ≡ is_some o → (b || x) ≡ is_some (if b then Some s else o)
among_by true x s o e = refl
among_by false x s o e = e

pub among_sum : (cs : List ClosedQuery) (k : ℕ) → is_among (numbers_of cs) k ≡ is_some (sum_in cs k)
among_sum [] k = refl
among_sum (c ∷ cs) k = among_by (c.query == k) (is_among (numbers_of cs) k) c.sum (sum_in cs k) (among_sum cs k)
