-- Fractions that are the same and have tapes alike. Without tapes, to be the same is not transitive; this is.
use Rattle.std.proofs.Common.{◌≡◌, ℕ, zero, suc, ◌*◌, ◌<◌, refl, ap, ap₂, sym, ◌∙◌, subst, arith, mul-pos}
use Rattle.cv_meaning.specs.Chances.{AtMost, Chance, Same}
use Rattle.cv_meaning_chances.specs.Fractions.{HasTapes, plus}
use Rattle.cv_meaning_chances.proofs.FractionLaws.{at_most_trans}
use Rattle.cv_steps.proofs.values.Adding.{factor_positive}
use Rattle.cv_meaning_chances.proofs.LikeTests.{same_trans}

pub fraction : (p q : Chance) → p.good ≡ q.good → p.all ≡ q.all → p ≡ q
fraction p q e f = ap₂ (λ (x y : ℕ). let r : Chance = record { good = x; all = y } in r) e f

pub left_positive : (m n : ℕ) → 0 < m * n → 0 < m
left_positive zero n h = absurd (omega arith)
left_positive (suc m) n h = omega arith

pub record AreAlike (p q : Chance) : Type 0 where
  pub same : Same p q
  pub forth : HasTapes p → HasTapes q
  pub back : HasTapes q → HasTapes p

pub alike_equal : (p q : Chance) → p ≡ q → AreAlike p q
alike_equal p q e = subst (AreAlike p) e (record { same = refl; forth = λ h. h; back = λ h. h })

pub alike_sym : (p q : Chance) → AreAlike p q → AreAlike q p
alike_sym p q h = record { same = sym h.same; forth = h.back; back = h.forth }

none_either : (m n : ℕ) → (0 < m → 0 < n) → n ≡ 0 → m ≡ 0
none_either zero n h e = refl
none_either (suc m) n h e = let k : 0 < n = h (omega arith) in absurd (omega arith)

-- fractions without tapes are the same
no_tapes : (p q : Chance) → p.all ≡ 0 → q.all ≡ 0 → Same p q
no_tapes p q e f = ap (λ n. p.good * n) f ∙ (let z : p.good * 0 ≡ q.good * 0 = omega arith in z) ∙ sym (ap (λ n. q.good * n) e)

pub alike_trans : (p q r : Chance) → AreAlike p q → AreAlike q r → AreAlike p r
alike_trans p q r h k = record { same = go q.all refl; forth = λ t. k.forth (h.forth t); back = λ t. h.back (k.back t) }
  where
    go : (n : ℕ) → q.all ≡ n → Same p r
    go zero e = no_tapes p r (none_either p.all q.all h.forth e) (none_either r.all q.all k.back e)
    go (suc n) e = same_trans p q r (omega arith) h.same k.same

pub alike_plus : (p q r s : Chance) → AreAlike p q → AreAlike r s → AreAlike (plus p r) (plus q s)
alike_plus p q r s h k =
    record {
      same = let e = ap (λ n. n * (r.all * s.all)) h.same in let f = ap (λ n. n * (p.all * q.all)) k.same in omega arith;
      forth = λ t. mul-pos (h.forth (left_positive p.all r.all t)) (k.forth (factor_positive p.all r.all t));
      back = λ t. mul-pos (h.back (left_positive q.all s.all t)) (k.back (factor_positive q.all s.all t));
    }

-- what one bounds, the other does
pub bounded_alike : (p q r : Chance) → AreAlike q r → AtMost p r → AtMost p q
bounded_alike p q r h k = go q.all refl
  where
    go : (n : ℕ) → q.all ≡ n → AtMost p q
    go zero e = let z = ap (λ m. p.good * m) e in omega arith
    go (suc n) e = at_most_trans p r q (h.forth (omega arith)) k (omega (arith, h.same))
