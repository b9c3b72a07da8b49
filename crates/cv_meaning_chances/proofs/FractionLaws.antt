-- Chances as fractions.
use Rattle.std.proofs.Common.{◌≡◌, ℕ, ◌+◌, ◌-◌, ◌*◌, ◌≤◌, ◌<◌, sym, ap, ap₂, ◌∙◌, arith, mul_comm, mul-le-mul_right, le_of_mul-le-mul_right, mul-add}
use Rattle.std.proofs.Math.Nat.{mul-sub}
use Rattle.cv_meaning.specs.Chances.{Chance, AtMost, Same, distance}
use Rattle.cv_meaning_chances.specs.Fractions.{plus}

pub at_most_trans : (p q r : Chance) → 0 < q.all → AtMost p q → AtMost q r → AtMost p r
at_most_trans p q r pos h k =
    le_of_mul-le-mul_right {k = q.all}
    (let a = mul-le-mul_right r.all h in let b = mul-le-mul_right p.all k in omega arith)
    pos

pub plus_kept : (p q r s : Chance) → AtMost p q → AtMost r s → AtMost (plus p r) (plus q s)
plus_kept p q r s h k =
    let a = mul-le-mul_right (r.all * s.all) h in
    let b = mul-le-mul_right (p.all * q.all) k in
    omega arith

-- how far two numbers are apart
abbrev gap : ℕ → ℕ → ℕ
gap m n = (m - n) + (n - m)

gap_mul : (m n k : ℕ) → gap m n * k ≡ gap (m * k) (n * k)
gap_mul m n k = rw (mul_comm m k, mul_comm n k, mul_comm (gap m n) k) (mul-add k (m - n) (n - m) ∙ ap₂ ◌+◌ (mul-sub k m n) (mul-sub k n m))

times_gaps : (a b c x y z : ℕ) → x * b ≤ y * c + z * a → x * (a * b * (b * c)) ≤ (y * (b * c) + z * (a * b)) * (a * c)
times_gaps a b c x y z h = let k = mul-le-mul_right (a * b * c) h in omega arith

pub triangle : (p q r : Chance) → AtMost (distance p r) (plus (distance p q) (distance q r))
triangle p q r =
    times_gaps p.all q.all r.all (gap (p.good * r.all) (r.good * p.all)) (gap (p.good * q.all) (q.good * p.all)) (gap (q.good * r.all) (r.good * q.all))
    (rw (gap_mul (p.good * r.all), gap_mul (p.good * q.all), gap_mul (q.good * r.all)) (omega arith))

times_gap : (a b m n x : ℕ) → m * b ≤ n * a + x → m * (b * (a * b)) ≤ (n * (a * b) + x * b) * a
times_gap a b m n x h = let k = mul-le-mul_right (a * b) h in omega arith

pub within_distance : (p q : Chance) → AtMost p (plus q (distance p q))
within_distance p q = times_gap p.all q.all p.good q.good (gap (p.good * q.all) (q.good * p.all)) (omega arith)

pub least_distance : (p q r : Chance) → AtMost p (plus q r) → AtMost q (plus p r) → AtMost (distance p q) r
least_distance p q r h k = rw (gap_mul (p.good * q.all)) (omega arith)

pub distance_kept : (p q r s : Chance) → Same p r → Same q s → Same (distance p q) (distance r s)
distance_kept p q r s h k =
    let a = ap (λ x. x * (q.all * s.all)) h in
    let b = ap (λ x. x * (p.all * r.all)) k in
    gap_mul (p.good * q.all) (q.good * p.all) (r.all * s.all)
    ∙ ap₂ gap (omega arith) (omega arith)
    ∙ sym (gap_mul (r.good * s.all) (s.good * r.all) (p.all * q.all))
