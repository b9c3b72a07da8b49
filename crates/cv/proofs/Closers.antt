-- The step that closes a query first, and what is known of it.
use Rattle.std.proofs.Common.{◌≡◌, ℕ, zero, suc, ◌+◌, Bool, true, false, ◌==◌, if◌then◌else◌, List, [], ◌∷◌, ◌++◌, take, refl, ap, ◌∙◌, subst, arith, Option, Some, None}
use Rattle.std.specs.Prelude.{Contains, slice_get}
use Rattle.std.specs.List.{AllByRecursion}
use Rattle.std.proofs.lemmas.Bool.Decides.{nat_tests}
use Rattle.cv_syntax_trees.specs.Tree.{Tree}
use Rattle.cv_bound.specs.declared.terms.Term.{Term}
use Rattle.cv_report.specs.declared.report.Verdict.TheVariants.{Proved}
use Rattle.cv_sequences.specs.Chains.{Link}
use Rattle.cv_bound.specs.costs.Sums.{sum_for, with_cost}
use Rattle.cv_bound.specs.declared.costs.sums.Sums.{Sums}
use Rattle.cv_kernel.specs.Closings.{Closing, closing_in, is_of_secrecy}
use Rattle.cv_kernel.specs.Proofs.{Transition, sum_at, sum_from, sums_behind}
use Rattle.cv_report.specs.verdicts.Verdicts.{verdict_by, verdicts_by}
use Rattle.cv_kernel.specs.Followed.{sums_along}

-- the step that closes a query first, and its sum

pub record Closes (sums : Sums) (ts : List Transition) (k : ℕ) (s : List Term) : Type 0 where
  pub place : ℕ
  pub here : Transition
  pub there : slice_get ts place ≡ Some here
  pub closing : Closing
  pub closes : closing_in here.step ≡ Some closing
  pub number : closing.query ≡ k
  pub up_to : s ≡ sum_for (is_of_secrecy closing) (with_cost (sums_along sums (take place ts)) here.cost)

closes_here : (sums : Sums) (t : Transition) (ts : List Transition) (k : ℕ) (s : List Term) (c : Closing) (later : Option (List Term)) (b : Bool) → (c.query == k) ≡ b → closing_in t.step ≡ Some c → (if b then Some (sum_for (is_of_secrecy c) (with_cost sums t.cost)) else later) ≡ Some s → (later ≡ Some s → Closes sums (t ∷ ts) k s) → Closes sums (t ∷ ts) k s
closes_here sums t ts k s c later true b n e f = record { place = zero; here = t; there = refl; closing = c; closes = n; number = grind (arith, nat_tests); up_to = cc }
closes_here sums t ts k s c later false b n e f = f e

closes_by : (sums : Sums) (t : Transition) (ts : List Transition) (k : ℕ) (s : List Term) (o : Option Closing) (later : Option (List Term)) → closing_in t.step ≡ o → sum_at sums t.cost k o later ≡ Some s → (later ≡ Some s → Closes sums (t ∷ ts) k s) → Closes sums (t ∷ ts) k s
closes_by sums t ts k s None later n e f = f e
closes_by sums t ts k s (Some c) later n e f = closes_here sums t ts k s c later (c.query == k) refl n e f

pub first_closing : (sums : Sums) (ts : List Transition) (k : ℕ) (s : List Term) → sum_from sums ts k ≡ Some s → Closes sums ts k s
first_closing sums [] k s e = absurd (cc)
first_closing sums (t ∷ ts) k s e =
    let behind = sums_behind sums (closing_in t.step) t.cost in
    closes_by sums t ts k s (closing_in t.step) (sum_from behind ts k) refl e (λ h. later (first_closing behind ts k s h))
  where
    later : Closes (sums_behind sums (closing_in t.step) t.cost) ts k s → Closes sums (t ∷ ts) k s
    later c = record { place = suc c.place; here = c.here; there = c.there; closing = c.closing; closes = c.closes; number = c.number; up_to = c.up_to }

-- a verdict says what the sum of its query is
verdict_is : (o : Option (List Term)) (s : List Term) → verdict_by o ≡ Proved s → o ≡ Some s
verdict_is None s e = absurd (cc)
verdict_is (Some x) s e = let f : x ≡ s = cc in ap Some f

pub verdict_at : (f : ℕ → Option (List Term)) (k : ℕ) (qs : List Tree) (j : ℕ) (s : List Term) → slice_get (verdicts_by f k qs) j ≡ Some (Proved s) → f (k + j) ≡ Some s
verdict_at f k [] j s e = absurd (cc)
verdict_at f k (q ∷ qs) zero s e = (let n : k + 0 ≡ k = omega arith in ap f n) ∙ verdict_is (f k) s (cc)
verdict_at f k (q ∷ qs) (suc j) s e = (let n : k + suc j ≡ suc k + j = omega arith in ap f n) ∙ verdict_at f (suc k) qs j s e

pub closed_at : (P : Tree → Type 0) (qs : List Tree) → AllByRecursion P qs → (j : ℕ) (q : Tree) → slice_get qs j ≡ Some q → P q
closed_at P [] h j q e = absurd (cc)
closed_at P (x ∷ qs) h zero q e = let f : x ≡ q = cc in subst P f h.0
closed_at P (x ∷ qs) h (suc j) q e = closed_at P qs h.1 j q e

pub contains_at : (qs : List Tree) (j : ℕ) (q : Tree) → slice_get qs j ≡ Some q → Contains qs q
contains_at [] j q e = absurd (cc)
contains_at (x ∷ qs) zero q e = (0, omega arith, cc)
contains_at (x ∷ qs) (suc j) q e = let h = contains_at qs j q e in (suc h.0, omega (arith, h.1), h.2)

-- advantages of links have tapes, where those of their contexts have

pub all_put : (P : Link → Type 0) (links : List Link) (l : Link) → AllByRecursion P links → P l → AllByRecursion P (links ++ l ∷ [])
all_put P [] l h k = (k, tt)
all_put P (m ∷ links) l h k = (h.0, all_put P links l h.1 k)
