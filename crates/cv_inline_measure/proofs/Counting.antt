-- Counts that are told, joined and over copies.
use Rattle.std.proofs.Common.{◌≡◌, ℕ, zero, suc, ◌+◌, ◌-◌, ◌*◌, ◌^◌, ◌≤◌, ◌⊎◌, inl, inr, refl, sym, ap, ◌∙◌, arith}
use Rattle.std.proofs.Math.Nat.{mul_comm, mul-suc}
use Rattle.cv_inline_laws.specs.extents.Extents as extents
use Rattle.cv_inline_laws.specs.extents.Extents.{all_nodes, longest_path, over_node}
use Rattle.cv_inline_laws.proofs.extents.Games.{Keeps}
use Rattle.cv_inline_measure.specs.declared.measuring.Measure.{Measure}
use Rattle.cv_inline_measure.specs.declared.measuring.Measure.TheVariants.{Nodes, Path}
use Rattle.cv_inline_measure.specs.Counts.{measure_in}
use Rattle.cv_syntax.specs.limits.Limits.{told}

pub told_again : (n : ℕ) → told (told n) ≡ told n
told_again n = omega arith

alike_or_great : (a b : ℕ) → told a ≡ told b → (a ≡ b) ⊎ ((2 ^ 32 - 1 ≤ a) × (2 ^ 32 - 1 ≤ b))
alike_or_great a b e = grind arith

great_told : (a : ℕ) → 2 ^ 32 - 1 ≤ a → told a ≡ 2 ^ 32 - 1
great_told a h = omega arith

both_great : (a b c : ℕ) → 2 ^ 32 - 1 ≤ a → 2 ^ 32 - 1 ≤ b → told (a * c) ≡ told (b * c)
both_great a b zero h i = omega arith
both_great a b (suc c) h i =
    let m : a * suc c ≡ a * c + a = mul-suc a c in
    let n : b * suc c ≡ b * c + b = mul-suc b c in
    let p : 2 ^ 32 - 1 ≤ a * suc c = omega (arith, m) in
    let q : 2 ^ 32 - 1 ≤ b * suc c = omega (arith, n) in
    great_told (a * suc c) p ∙ sym (great_told (b * suc c) q)

left_factor : (a b c : ℕ) → told a ≡ told b → told (a * c) ≡ told (b * c)
left_factor a b c e = go (alike_or_great a b e) where
  go : (a ≡ b) ⊎ ((2 ^ 32 - 1 ≤ a) × (2 ^ 32 - 1 ≤ b)) → told (a * c) ≡ told (b * c)
  go (inl i) = ap (λ x. told (x * c)) i
  go (inr h) = both_great a b c h.0 h.1

product : (a b c d : ℕ) → told a ≡ told b → told c ≡ told d → told (a * c) ≡ told (b * d)
product a b c d e f = left_factor a b c e ∙ (ap told (mul_comm b c) ∙ (left_factor c d b f ∙ ap told (mul_comm d b)))

pub keeps : (m : Measure) → Keeps (measure_in m) told
keeps Nodes = record {
  joined = λ a b c d e f. omega arith;
  scaled = product;
}
keeps Path = record {
  joined = λ a b c d e f. omega arith;
  scaled = λ a b c d e f. omega arith;
}

pub join_told : (m : Measure) (a b c d : ℕ) → a ≡ told b → c ≡ told d → told ((measure_in m).join a c) ≡ told ((measure_in m).join b d)
join_told m a b c d e f = (keeps m).joined a b c d (ap told e ∙ told_again b) (ap told f ∙ told_again d)

pub along_told : (m : Measure) (a b c d : ℕ) → a ≡ told b → c ≡ told d → told ((measure_in m).along a c) ≡ told ((measure_in m).along b d)
along_told m a b c d e f = (keeps m).scaled a b c d (ap told e ∙ told_again b) (ap told f ∙ told_again d)

pub node_alike : (m : Measure) (c w a b p q : ℕ) → a ≡ told b → p ≡ told q → told (over_node (measure_in m) c w a p) ≡ told (over_node (measure_in m) c w b q)
node_alike m c w a b p q e f =
    let μ : extents.Measure = measure_in m in
    (keeps m).joined (μ.along w c) (μ.along w c) _ _ refl
    ((keeps m).scaled (μ.below w) (μ.below w) _ _ refl (join_told m a b p q e f))

pub node_told : (m : Measure) (c w a b n k l : ℕ) → n ≡ told ((measure_in m).along w c) → k ≡ told ((measure_in m).join a b) → l ≡ told ((measure_in m).along ((measure_in m).below w) k) → told ((measure_in m).join n l) ≡ told (over_node (measure_in m) c w a b)
node_told m c w a b n k l e f g =
    let μ : extents.Measure = measure_in m in
    (keeps m).joined n (μ.along w c) l (μ.along (μ.below w) (μ.join a b)) (ap told e ∙ told_again (μ.along w c))
    (ap told g ∙ (told_again (μ.along (μ.below w) k) ∙ (keeps m).scaled (μ.below w) (μ.below w) k (μ.join a b) refl (ap told f ∙ told_again (μ.join a b))))

pub part_told : (m : Measure) (a b c : ℕ) → a ≡ told b → told ((measure_in m).along a c) ≡ told ((measure_in m).along b c)
part_told m a b c e = (keeps m).scaled a b c c (ap told e ∙ told_again b) refl
