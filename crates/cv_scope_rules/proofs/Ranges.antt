-- Ranges that end at or before a place.
use Rattle.std.proofs.Common.{ℕ, ◌≤◌, List, [], ◌∷◌, ◌++◌, arith}
use Rattle.std.specs.List.{AllByRecursion}
use Rattle.cv_scope_rules.specs.Ranges.{EndBy}

pub all_push : (P : ℕ × ℕ → Type 0) (rs : List (ℕ × ℕ)) (r : ℕ × ℕ) → AllByRecursion P rs → P r → AllByRecursion P (rs ++ r ∷ [])
all_push P [] r a p = (p, tt)
all_push P (q ∷ rs) r a p = (a.0, all_push P rs r a.1 p)

pub end_push : (p from to : ℕ) (rs : List (ℕ × ℕ)) → EndBy p rs → to ≤ p → EndBy p (rs ++ (from, to) ∷ [])
end_push p from to rs a h = all_push (λ r. r.1 ≤ p) rs (from, to) a h

pub end_later : (p q : ℕ) (rs : List (ℕ × ℕ)) → EndBy p rs → p ≤ q → EndBy q rs
end_later p q [] a h = tt
end_later p q (r ∷ rs) a h = (omega (arith, a.0, h), end_later p q rs a.1 h)
