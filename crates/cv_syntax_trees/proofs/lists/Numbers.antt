-- Numbers.
use Rattle.std.proofs.Common.{Bool, arith, false, inl, inr, ltb, ltb-false, ltb-true, refl, suc, true, ℕ, ◌+◌, ◌<◌, ◌≡◌, ◌≤◌, ◌⊎◌}

pub below_or_not : (m n : ℕ) → (m < n) ⊎ (n ≤ m)
below_or_not m n = go (ltb m n) refl
  where
    go : (v : Bool) → ltb m n ≡ v → (m < n) ⊎ (n ≤ m)
    go true e = inl (ltb-true m n e)
    go false e = inr (ltb-false m n e)

pub suc_is_plus_one : (k : ℕ) → suc k ≡ k + 1
suc_is_plus_one k = omega arith
