-- The least number that is free, try by try; and how far numbers come.
use Rattle.std.proofs.Common.{◌≡◌, ℕ, zero, suc, ◌+◌, ◌*◌, ◌-◌, ◌^◌, ◌<◌, ◌≤◌, inl, inr, Bool, true, false, refl, ap₂, arith}
use Rattle.std.proofs.lemmas.Bool.{cases_lt}
use Rattle.std.proofs.lemmas.Nat.{mul-le}
use Rattle.cv_inline.specs.Draws.{least_free}

-- with a try left, a number that is taken is passed over, and one that is free is the answer
pub passed : (is_taken : ℕ → Bool) (tries n : ℕ) → 0 < tries → is_taken n ≡ true → least_free is_taken (tries - 1) (n + 1) ≡ least_free is_taken tries n
passed p zero n h e = absurd (omega arith)
passed p (suc k) n h e = let one : suc k - 1 ≡ k = omega arith in let two : n + 1 ≡ suc n = omega arith in rw e (ap₂ (λ t m. least_free p t m) one two)

pub free : (is_taken : ℕ → Bool) (tries n : ℕ) → is_taken n ≡ false → least_free is_taken tries n ≡ n
free p zero n e = refl
free p (suc k) n e = rw e refl

-- so many draws with so many tries don't come far
pub not_far : (draws tries : ℕ) → draws + tries ≤ 2 ^ 32 → draws * tries ≤ 2 ^ 63
not_far a b h = elim (cases_lt (2 ^ 31) a) [ inl l ↦ mul-le a b (2 ^ 32) (2 ^ 31) (omega arith) (omega arith) | inr s ↦ mul-le a b (2 ^ 31) (2 ^ 32) s (omega arith) ]

suc_mul : (a b : ℕ) → (a + 1) * b ≡ a * b + b
suc_mul a b = grind arith

-- the bound goes on
pub further : (start number label draws tries : ℕ) → number ≤ start + draws * (tries + 1) → label ≤ number + tries → label + 1 ≤ start + (draws + 1) * (tries + 1)
further start number label draws tries h i = let e = suc_mul draws (tries + 1) in omega arith

-- and keeps room for the next tries
pub room : (start number all draws tries : ℕ) → number ≤ start + draws * (tries + 1) → draws < all → tries + all < 2 ^ 32 → start ≤ 2 ^ 40 → number + tries < 2 ^ 64
room start number all draws tries h small few low = let e = suc_mul draws (tries + 1) in let m = not_far (draws + 1) (tries + 1) (omega arith) in omega arith
