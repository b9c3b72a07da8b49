-- The parameters of a variable, one by one.
use Rattle.std.proofs.Common.{◌≡◌, ℕ, zero, suc, ◌+◌, List, [], ◌∷◌, drop, refl, ap, sym, ◌∙◌, arith, Option, Some, None, option_and_then}
use Rattle.std.specs.Prelude.{slice_get}
use Rattle.cv_typing.specs.Lookups.{parameters_of}
use Rattle.cv_syntax_trees.specs.sites.Sites.{Variable}

pub drop_some : {A : Type 0} (xs : List A) (k : ℕ) (n : A) → slice_get xs k ≡ Some n → drop k xs ≡ n ∷ drop (k + 1) xs
drop_some [] k n e = absurd (cc)
drop_some (x ∷ xs) zero n e = let f : x ≡ n = cc in ap (λ y. y ∷ xs) f
drop_some (x ∷ xs) (suc k) n e = let f : suc k + 1 ≡ suc (k + 1) = omega arith in drop_some xs k n e ∙ sym (ap (λ j. n ∷ drop j (x ∷ xs)) f)

pub drop_none : {A : Type 0} (xs : List A) (k : ℕ) → slice_get xs k ≡ None → drop k xs ≡ []
drop_none [] zero e = refl
drop_none [] (suc k) e = refl
drop_none (x ∷ xs) zero e = absurd (cc)
drop_none (x ∷ xs) (suc k) e = drop_none xs k e

pub parameter_some : (v : Option Variable) (k n : ℕ) → option_and_then (λ (v : Variable). slice_get v.parameters k) v ≡ Some n → drop k (parameters_of v) ≡ n ∷ drop (k + 1) (parameters_of v)
parameter_some None k n e = absurd (cc)
parameter_some (Some v) k n e = drop_some v.parameters k n e

pub parameter_none : (v : Option Variable) (k : ℕ) → option_and_then (λ (v : Variable). slice_get v.parameters k) v ≡ None → drop k (parameters_of v) ≡ []
parameter_none None k e = drop_none [] k refl
parameter_none (Some v) k e = drop_none v.parameters k e
