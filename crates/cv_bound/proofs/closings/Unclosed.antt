-- The first number that isn't closed, number after number.
use Rattle.std.proofs.Common.{◌≡◌, ℕ, suc, ◌+◌, ◌-◌, ◌<◌, Bool, true, false, if◌then◌else◌, List, refl, ap, sym, ◌∙◌, arith, Option, Some}
use Rattle.cv_bound.specs.closings.Queries.{first_unclosed_from, is_among}

-- a number more is left
left_more : (k n : ℕ) → k < n → n - k ≡ suc (n - (k + 1))
left_more k n l = omega arith

by_closed : (b : Bool) (k : ℕ) (later : Option ℕ) → b ≡ true → (if b then later else Some k) ≡ later
by_closed true k later e = refl
by_closed false k later e = absurd (cc)

pub number_closed : (ks : List ℕ) (k n : ℕ) (first : Option ℕ) → k < n → is_among ks (k + 1) ≡ true → first_unclosed_from ks (k + 1) (n - k) ≡ first → first_unclosed_from ks (k + 1 + 1) (n - (k + 1)) ≡ first
number_closed ks k n first l e h =
    let left = n - (k + 1) in
    let next : suc (k + 1) ≡ k + 1 + 1 = omega arith in
    ap (λ m. first_unclosed_from ks m left) (sym next)
    ∙ (sym (by_closed (is_among ks (k + 1)) (k + 1) (first_unclosed_from ks (suc (k + 1)) left) e)
    ∙ (ap (first_unclosed_from ks (k + 1)) (sym (left_more k n l)) ∙ h))
