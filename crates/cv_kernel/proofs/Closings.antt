-- What a sequence holds of the queries that its steps close.
use Rattle.std.proofs.Common.{◌≡◌, ℕ, Bool, true, false, ◌||◌, ◌==◌, if◌then◌else◌, List, [], ◌∷◌, ◌++◌, Option, Some, None, is_some, refl, ap, ◌∙◌}
use Rattle.cv_bound.specs.declared.cost.Cost.{Cost as SumCost}
use Rattle.cv_bound.specs.declared.cost.Cost.TheVariants as bound
use Rattle.cv_bound.specs.declared.terms.Term.{Term}
use Rattle.cv_bound.specs.Sums.{with_terms}
use Rattle.cv_bound.specs.costs.Sums.{sum_for, with_cost}
use Rattle.cv_bound.specs.declared.costs.sums.Sums.{Sums}
use Rattle.cv_bound.specs.declared.closings.queries.ClosedQuery.{ClosedQuery}
use Rattle.cv_bound.specs.closings.Queries.{is_among, numbers_of, sum_in}
use Rattle.cv_kernel.specs.Closings.{Closing, closing_in, is_of_secrecy}
use Rattle.cv_kernel.specs.Proofs.{Transition, closed_by, number_before, sum_at, sum_from, sums_behind}
use Rattle.cv_kernel.specs.Followed.{closed_before, closings_from, sums_along}

-- a sums with nothing more is the same
pub nothing_more : (sums : Sums) → with_cost sums bound.Zero ≡ sums
unfolding with_terms
nothing_more sums = refl

-- a transition more

pub sum_put : (sums : Sums) (ts : List Transition) (t : Transition) → sums_along sums (ts ++ t ∷ []) ≡ sums_behind (sums_along sums ts) (closing_in t.step) t.cost
sum_put sums [] t = refl
sum_put sums (u ∷ ts) t = sum_put (sums_behind sums (closing_in u.step) u.cost) ts t

before_put : (sums : Sums) (cost : SumCost) (c : Option Closing) (xs ys : List ClosedQuery) → closed_before sums cost c (xs ++ ys) ≡ closed_before sums cost c xs ++ ys
before_put sums cost None xs ys = refl
before_put sums cost (Some c) xs ys = refl

pub closings_put : (sums : Sums) (ts : List Transition) (t : Transition) → closings_from sums (ts ++ t ∷ []) ≡ closings_from sums ts ++ closed_before (sums_along sums ts) t.cost (closing_in t.step) []
closings_put sums [] t = refl
closings_put sums (u ∷ ts) t =
    let s = sums_behind sums (closing_in u.step) u.cost in
    ap (closed_before sums u.cost (closing_in u.step)) (closings_put s ts t) ∙ before_put sums u.cost (closing_in u.step) (closings_from s ts) (closed_before (sums_along s ts) t.cost (closing_in t.step) [])

-- the numbers and the sums are those of the transitions

numbers_before : (sums : Sums) (cost : SumCost) (c : Option Closing) (xs : List ClosedQuery) → numbers_of (closed_before sums cost c xs) ≡ number_before c (numbers_of xs)
numbers_before sums cost None xs = refl
numbers_before sums cost (Some c) xs = refl

pub numbers_same : (sums : Sums) (ts : List Transition) → numbers_of (closings_from sums ts) ≡ closed_by ts
numbers_same sums [] = refl
numbers_same sums (t ∷ ts) =
    let s = sums_behind sums (closing_in t.step) t.cost in
    numbers_before sums t.cost (closing_in t.step) (closings_from s ts) ∙ ap (number_before (closing_in t.step)) (numbers_same s ts)

sums_before : (sums : Sums) (cost : SumCost) (k : ℕ) (c : Option Closing) (xs : List ClosedQuery) → sum_in (closed_before sums cost c xs) k ≡ sum_at sums cost k c (sum_in xs k)
sums_before sums cost k None xs = refl
sums_before sums cost k (Some c) xs = refl

pub sums_same : (sums : Sums) (ts : List Transition) (k : ℕ) → sum_in (closings_from sums ts) k ≡ sum_from sums ts k
sums_same sums [] k = refl
sums_same sums (t ∷ ts) k =
    let s = sums_behind sums (closing_in t.step) t.cost in
    sums_before sums t.cost k (closing_in t.step) (closings_from s ts) ∙ ap (sum_at sums t.cost k (closing_in t.step)) (sums_same s ts k)

-- a query has a sums exactly where it is closed

among_cons : (n : ℕ) (ks : List ℕ) (k : ℕ) (s : List Term) (o : Option (List Term)) → is_among ks k ≡ is_some o → is_among (n ∷ ks) k ≡ is_some (if n == k then Some s else o)
among_cons n ks k s o e = by (n == k)
  where
    by : (b : Bool) → (b || is_among ks k) ≡ is_some (if b then Some s else o)
    by true = refl
    by false = e

among_at : (sums : Sums) (cost : SumCost) (k : ℕ) (c : Option Closing) (ks : List ℕ) (o : Option (List Term)) → is_among ks k ≡ is_some o → is_among (number_before c ks) k ≡ is_some (sum_at sums cost k c o)
among_at sums cost k None ks o e = e
among_at sums cost k (Some c) ks o e = among_cons c.query ks k (sum_for (is_of_secrecy c) (with_cost sums cost)) o e

pub among_same : (sums : Sums) (ts : List Transition) (k : ℕ) → is_among (closed_by ts) k ≡ is_some (sum_from sums ts k)
among_same sums [] k = refl
among_same sums (t ∷ ts) k =
    let s = sums_behind sums (closing_in t.step) t.cost in
    among_at sums t.cost k (closing_in t.step) (closed_by ts) (sum_from s ts k) (among_same s ts k)
