-- The value of a product of parameters.
use Rattle.std.proofs.Common.{◌≡◌, ℕ, ◌+◌, ◌*◌, ◌^◌, Bool, true, false, cond, List, [], ◌∷◌, refl, ap, sym, ◌∙◌, add-one}
use Rattle.std.proofs.Math.Nat.{mul-one, mul_assoc, mul_left_comm, pow-succ', pow-zero}
use Rattle.std.proofs.lemmas.Bool.{eqb-true}
use Rattle.std.specs.Prelude.{◌==◌}
use Rattle.cv_pool.specs.declared.names.names.NameId.{NameId}
use Rattle.cv_meaning.specs.Interpretation.{Interpretation}
use Rattle.cv_steps.specs.values.Values.{product_value}
use Rattle.cv_costs.specs.Factors.{factor, is_before, with_parameter}

once : (v m : ℕ) → v ^ 1 * m ≡ v * m
once v m = ap (λ x. x * m) (pow-succ' v 0 ∙ (ap (λ x. v * x) (pow-zero v) ∙ mul-one v))

again : (v k m : ℕ) → v ^ (k + 1) * m ≡ v * (v ^ k * m)
again v k m = ap (λ j. v ^ j * m) (add-one k) ∙ (ap (λ x. x * m) (pow-succ' v k) ∙ mul_assoc v (v ^ k) m)

pub with_value : (order : List ℕ) (i : Interpretation) (n : ℕ) (fs : List (NameId × ℕ)) → product_value i (with_parameter order n fs) ≡ i.parameter_value n * product_value i fs
unfolding with_parameter
with_value order i n [] = once (i.parameter_value n) 1
with_value order i n (f ∷ fs) = go (n == f.0.0) (is_before order n f.0.0) (λ e. eqb-true n f.0.0 e) (with_value order i n fs)
  where
    go : (b c : Bool) → (b ≡ true → n ≡ f.0.0) → product_value i (with_parameter order n fs) ≡ i.parameter_value n * product_value i fs
        → product_value i (cond b ((f.0, f.1 + 1) ∷ fs) (cond c (factor n ∷ f ∷ fs) (f ∷ with_parameter order n fs))) ≡ i.parameter_value n * product_value i (f ∷ fs)
    go true c e rest = again (i.parameter_value f.0.0) f.1 (product_value i fs) ∙ ap (λ x. i.parameter_value x * product_value i (f ∷ fs)) (sym (e refl))
    go false true e rest = once (i.parameter_value n) (product_value i (f ∷ fs))
    go false false e rest = ap (λ x. i.parameter_value f.0.0 ^ f.1 * x) rest ∙ mul_left_comm (i.parameter_value f.0.0 ^ f.1) (i.parameter_value n) (product_value i fs)
