-- The coefficients of a sum.
use Rattle.std.proofs.Common.{◌≡◌, ℕ, ◌+◌, ◌*◌, ◌^◌, ◌<◌, ◌≤◌, Bool, true, false, List, [], ◌∷◌, ◌++◌, refl, ap, sym, ◌∙◌, arith}
use Rattle.std.specs.Prelude.{sum_by, Result, Ok, Err, OnOk, OnErr}
use Rattle.std.proofs.lemmas.List.Sums.{sum_by-cons}
use Rattle.cv_pool.specs.declared.names.names.NameId.{NameId}
use Rattle.cv_bound.specs.declared.cost.Collision.{Collision}
use Rattle.cv_bound.specs.declared.cost.Cost.{Cost}
use Rattle.cv_bound.specs.declared.cost.Cost.TheVariants as cost
use Rattle.cv_bound.specs.declared.terms.Term.{Term}
use Rattle.cv_bound.specs.declared.terms.Term.TheVariants as term
use Rattle.cv_bound.specs.Sums.{are_alike, merged, with_term, with_terms, terms_of, added, AllFit, coefficient, coefficients}

head_counts : (c d : Collision) (ts : List Term) (b : Bool) → are_alike d c ≡ b → coefficients (merged ts c) ≡ coefficients ts + c.times → coefficients (merged (term.Collision d ∷ ts) c) ≡ d.times + coefficients ts + c.times
unfolding merged
head_counts c d ts true e next = rw e (omega arith)
head_counts c d ts false e next = rw e (omega arith)

merged_counts : (ts : List Term) (c : Collision) → coefficients (merged ts c) ≡ coefficients ts + c.times
unfolding merged
merged_counts [] c = omega arith
merged_counts (term.Collision d ∷ ts) c = head_counts c d ts (are_alike d c) refl (merged_counts ts c)
merged_counts (t ∷ ts) c = let h = merged_counts ts c in omega arith

last_counts : (ts : List Term) (t : Term) → coefficients (ts ++ t ∷ []) ≡ coefficients ts + coefficient t
last_counts [] t = omega arith
last_counts (u ∷ ts) t = let h = last_counts ts t in omega arith

with_counts : (ts : List Term) (t : Term) → coefficients (with_term ts t) ≡ coefficients ts + coefficient t
with_counts ts (term.Collision c) = merged_counts ts c
with_counts ts t = last_counts ts t

all_count : (ts us : List Term) → coefficients (with_terms ts us) ≡ coefficients ts + coefficients us
unfolding with_terms
all_count ts [] = omega arith
all_count ts (u ∷ us) = let h = all_count (with_term ts u) us in let k = with_counts ts u in omega arith

pub coefficients_added : (ts : List Term) (c : Cost) (secrecy : Bool) → coefficients (added ts c secrecy) ≡ coefficients ts + coefficients (terms_of c secrecy)
coefficients_added ts c secrecy = all_count ts (terms_of c secrecy)

pub counted_once : (cs : List Collision) → coefficients (terms_of (cost.Collisions cs) false) ≡ sum_by (λ (c : Collision). c.times) cs
counted_once [] = refl
counted_once (c ∷ cs) = ap (λ n. c.times + n) (counted_once cs) ∙ sym (sum_by-cons (λ (d : Collision). d.times) c cs)

pub counted_twice : (cs : List Collision) → coefficients (terms_of (cost.Collisions cs) true) ≡ 2 * sum_by (λ (c : Collision). c.times) cs
counted_twice [] = refl
counted_twice (c ∷ cs) = let h = counted_twice cs in let k = sum_by-cons (λ (d : Collision). d.times) c cs in omega arith

pub small_fit : (ts : List Term) → coefficients ts < 2 ^ 64 → AllFit ts
small_fit [] h = tt
small_fit (term.Collision c ∷ ts) h = (omega arith, small_fit ts (omega arith))
small_fit (t ∷ ts) h = (tt, small_fit ts (omega arith))

-- an advantage has none
pub advantage_counts : (step : ℕ) (q : NameId) (secrecy : Bool) → coefficients (terms_of (cost.Advantage step q) secrecy) ≡ 0
advantage_counts step q true = refl
advantage_counts step q false = refl

pub ruleset counts = (counted_once, counted_twice, advantage_counts)
