-- Counts that are told: sums and products of such counts.
use Rattle.std.proofs.Common.{◌≡◌, ℕ, zero, suc, ◌+◌, ◌-◌, ◌*◌, ◌^◌, ◌≤◌, ◌⊎◌, inl, inr, refl, sym, ap, ◌∙◌, arith}
use Rattle.std.proofs.Math.Nat.{mul_comm, mul-suc}
use Rattle.cv_syntax.specs.limits.Limits.{told}

pub sum_told : (a b c d : ℕ) → a ≡ told b → c ≡ told d → told (a + c) ≡ told (b + d)
sum_told a b c d e f = omega (arith, e, f)

alike_or_great : (a b : ℕ) → told a ≡ told b → (a ≡ b) ⊎ ((2 ^ 32 - 1 ≤ a) × (2 ^ 32 - 1 ≤ b))
alike_or_great a b e = grind arith

great_told : (a : ℕ) → 2 ^ 32 - 1 ≤ a → told a ≡ 2 ^ 32 - 1
great_told a h = omega arith

both_great : (a b c : ℕ) → 2 ^ 32 - 1 ≤ a → 2 ^ 32 - 1 ≤ b → told (a * c) ≡ told (b * c)
both_great a b zero h i = omega arith
both_great a b (suc c) h i =
    let m : a * suc c ≡ a * c + a = mul-suc a c in
    let n : b * suc c ≡ b * c + b = mul-suc b c in
    let p : 2 ^ 32 - 1 ≤ a * suc c = omega (arith, m) in
    let q : 2 ^ 32 - 1 ≤ b * suc c = omega (arith, n) in
    great_told (a * suc c) p ∙ sym (great_told (b * suc c) q)

left_factor : (a b c : ℕ) → told a ≡ told b → told (a * c) ≡ told (b * c)
left_factor a b c e = go (alike_or_great a b e) where
  go : (a ≡ b) ⊎ ((2 ^ 32 - 1 ≤ a) × (2 ^ 32 - 1 ≤ b)) → told (a * c) ≡ told (b * c)
  go (inl i) = ap (λ x. told (x * c)) i
  go (inr h) = both_great a b c h.0 h.1

pub product_told : (a b c d : ℕ) → a ≡ told b → c ≡ told d → told (a * c) ≡ told (d * b)
product_told a b c d e f =
    let g : told a ≡ told b = omega (arith, e) in
    let h : told c ≡ told d = omega (arith, f) in
    left_factor a b c g ∙ (ap told (mul_comm b c) ∙ left_factor c d b h)

pub one_told : (a : ℕ) → told (1 * a) ≡ told a
one_told a = omega arith

pub more_told : (t c C S W g : ℕ) → c ≡ told C → g ≡ told (t + c) → told (t + (C + S)) ≡ W → told (g + S) ≡ W
more_told t c C S W g e f h = omega (arith, e, f, h)
