-- The queries that are closed, by their numbers, from 1, each with the sum up to which it is. This profile's own.
use Rattle.std.specs.Prelude.{ℕ, zero, suc, ◌==◌, if◌then◌else◌, Bool, List, [], ◌∷◌, map, Option, Some, None}
use Rattle.std.specs.List.{list_any}
use Rattle.cv_bound.specs.declared.terms.Term.{Term}
use Rattle.cv_bound.specs.declared.closings.queries.ClosedQuery.{ClosedQuery}

-- the numbers of closed queries
abbrev pub numbers_of : List ClosedQuery → List ℕ
numbers_of cs = map (λ c. c.query) cs

abbrev pub is_among : List ℕ → ℕ → Bool
is_among ks k = list_any (λ n. n == k) ks

-- the sum of a query, where it is closed
abbrev pub sum_in : List ClosedQuery → (query : ℕ) → Option (List Term)
sum_in [] k = None
sum_in (c ∷ cs) k = if c.query == k then Some c.sum else sum_in cs k

-- the first of so many numbers, counted from this one on, that isn't among those of closed queries
abbrev pub first_unclosed_from : (closed : List ℕ) → (number count : ℕ) → Option ℕ
first_unclosed_from closed k zero = None
first_unclosed_from closed k (suc n) = if is_among closed k then first_unclosed_from closed (suc k) n else Some k

abbrev pub first_unclosed : (closed : List ℕ) → (count : ℕ) → Option ℕ
first_unclosed closed n = first_unclosed_from closed 1 n
