-- Ranges that their order makes quick to search.
use Rattle.std.proofs.Common.{◌≡◌, ℕ, zero, suc, ◌-◌, ◌≤◌, ◌<◌, Bool, true, false, not, ◌&&◌, ◌||◌, List, [], ◌∷◌, ◌++◌, length, take, get_or, refl, ap, sym, ◌∙◌, arith, nat_lt, leb, ap₂}
use Rattle.std.specs.List.{AllByRecursion}
use Rattle.std.proofs.lemmas.Bool.{not_from_true, lt-ltb, le-ltb, or_from, and_left, and_right, leb-true, leb-false}
use Rattle.std.specs.List.Sorted.{IsNonDecreasingBy}
use Rattle.cv_scope_rules.specs.Ranges.{EndBy}
use Rattle.cv_scope.specs.Rising.{Rise}
use Rattle.cv_scope_rules.proofs.Ranges.{all_push}
use Rattle.cv_scope_rules.specs.Tests.{is_in_one_of}

-- ranges

all_take : (P : ℕ × ℕ → Type 0) (n : ℕ) (rs : List (ℕ × ℕ)) → AllByRecursion P rs → AllByRecursion P (take n rs)
all_take P zero rs a = tt
all_take P (suc n) [] a = tt
all_take P (suc n) (r ∷ rs) a = (a.0, all_take P n rs a.1)

pub rise_push : (from to : ℕ) (rs : List (ℕ × ℕ)) → Rise rs → EndBy from rs → from ≤ to → Rise (rs ++ (from, to) ∷ [])
rise_push from to [] s a h = (tt, h, tt)
rise_push from to (r ∷ rs) s a h = (all_push (λ q. r.1 ≤ q.0) rs (from, to) s.0 a.0, s.1, rise_push from to rs s.2 a.1 h)

pub rise_take : (n : ℕ) (rs : List (ℕ × ℕ)) → Rise rs → Rise (take n rs)
rise_take zero rs s = tt
rise_take (suc n) [] s = tt
rise_take (suc n) (r ∷ rs) s = (all_take (λ q. r.1 ≤ q.0) n rs s.0, s.1, rise_take n rs s.2)

no_range : (rs : List (ℕ × ℕ)) (p : ℕ) → ((k : ℕ) (d : ℕ × ℕ) → k < length rs → p < (get_or rs k d).0) → is_in_one_of rs p ≡ false
no_range [] p h = refl
no_range (r ∷ rs) p h = or_from _ _ (and_left _ _ (not_from_true _ (lt-ltb p r.0 (h zero r (omega arith))))) (no_range rs p (λ k d l. h (suc k) d (omega arith)))

only_range : (r : ℕ × ℕ) (p : ℕ) (b : Bool) → r.0 ≤ p → b ≡ false → ((not (nat_lt p r.0) && nat_lt p r.1) || b) ≡ nat_lt p r.1
only_range r p b h e = ap₂ (λ (x y : Bool). (not x && nat_lt p r.1) || y) (le-ltb p r.0 h) e ∙ last (nat_lt p r.1)
  where
    last : (x : Bool) → (x || false) ≡ x
    last true = refl
    last false = refl

other_range : (r : ℕ × ℕ) (p : ℕ) (b : Bool) → r.1 ≤ p → ((not (nat_lt p r.0) && nat_lt p r.1) || b) ≡ b
other_range r p b h = ap (λ (x : Bool). x || b) (and_right (not (nat_lt p r.0)) _ (le-ltb p r.1 h))

-- of ranges one behind the other, the last that begins at or before a place may have it
range_of : (rs : List (ℕ × ℕ)) (p j : ℕ) (d : ℕ × ℕ) → Rise rs → j < length rs → ((k : ℕ) (e : ℕ × ℕ) → k ≤ j → (get_or rs k e).0 ≤ p) → ((k : ℕ) (e : ℕ × ℕ) → j < k → k < length rs → p < (get_or rs k e).0) → is_in_one_of rs p ≡ nat_lt p (get_or rs j d).1
range_of [] p j d s l le gt = absurd (omega arith)
range_of (r ∷ rs) p zero d s l le gt = only_range r p (is_in_one_of rs p) (le zero r (omega arith)) (no_range rs p (λ k e m. gt (suc k) e (omega arith) (omega arith)))
range_of (r ∷ []) p (suc j) d s l le gt = absurd (omega arith)
range_of (r ∷ (q ∷ rs)) p (suc j) d s l le gt =
    let below : q.0 ≤ p = le (suc zero) q (omega arith) in
    other_range r p (is_in_one_of (q ∷ rs) p) (omega (arith, s.0.0, below)) ∙ range_of (q ∷ rs) p j d s.2 (omega arith) (λ k e m. le (suc k) e (omega arith)) (λ k e m n. gt (suc k) e (omega arith) (omega arith))

pub in_no_range : (rs : List (ℕ × ℕ)) (p i : ℕ) → i ≡ 0 → ((k : ℕ) (e : ℕ × ℕ) → i ≤ k → k < length rs → leb (get_or rs k e).0 p ≡ false) → false ≡ is_in_one_of rs p
in_no_range rs p i z gt = sym (no_range rs p (λ k d l. leb-false (get_or rs k d).0 p (gt k d (omega arith) l)))

pub in_last_range : (rs : List (ℕ × ℕ)) (p i : ℕ) (d r : ℕ × ℕ) → Rise rs → (i ≡ 0 → ⊥) → i ≤ length rs → r ≡ get_or rs (i - 1) d → ((k : ℕ) (e : ℕ × ℕ) → k < length rs → k < i → leb (get_or rs k e).0 p ≡ true) → ((k : ℕ) (e : ℕ × ℕ) → i ≤ k → k < length rs → leb (get_or rs k e).0 p ≡ false) → nat_lt p r.1 ≡ is_in_one_of rs p
in_last_range rs p i d r s n b e le gt =
    ap (λ (x : ℕ × ℕ). nat_lt p x.1) e
    ∙ sym (range_of rs p (i - 1) d s (omega arith) (λ k x l. leb-true (get_or rs k x).0 p (le k x (omega arith) (omega arith))) (λ k x l m. leb-false (get_or rs k x).0 p (gt k x (omega arith) m)))

all_at : (P : ℕ × ℕ → Type 0) (rs : List (ℕ × ℕ)) (j : ℕ) (d : ℕ × ℕ) → AllByRecursion P rs → j < length rs → P (get_or rs j d)
all_at P [] j d a l = absurd (omega arith)
all_at P (r ∷ rs) zero d a l = a.0
all_at P (r ∷ rs) (suc j) d a l = all_at P rs j d a.1 (omega arith)

pub rise_orders : (rs : List (ℕ × ℕ)) → Rise rs → IsNonDecreasingBy (λ (r : ℕ × ℕ). r.0) rs
rise_orders [] s i j d h l = absurd (omega arith)
rise_orders (r ∷ rs) s zero zero d h l = omega arith
rise_orders (r ∷ rs) s zero (suc j) d h l = let b = all_at (λ q. r.1 ≤ q.0) rs j d s.0 (omega arith) in omega (arith, b, s.1)
rise_orders (r ∷ rs) s (suc i) zero d h l = absurd (omega arith)
rise_orders (r ∷ rs) s (suc i) (suc j) d h l = rise_orders rs s.2 i j d (omega arith) (omega arith)
