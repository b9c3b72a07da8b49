-- Options, by what they are made of.
use Rattle.std.proofs.Common.{◌≡◌, true, Option, Some, None, is_some, refl, List, [], ap, false, map, not, slice_get, subst, suc, zero, ℕ, ◌∷◌}
use Rattle.std.specs.Prelude.{IfSome, option_map}
use Rattle.std.proofs.lemmas.Bool.{both_ways}
use Rattle.std.specs.List.{AllByRecursion}
use Rattle.cv_syntax_trees.specs.lists.Options.{first_of}

pub some_from_is_some : {A : Type 0} (o : Option A) → is_some o ≡ true → (x : A) × (o ≡ Some x)
some_from_is_some None e = absurd (cc)
some_from_is_some (Some x) e = (x, refl)

pub option_map_Some : {A B : Type 0} (f : A → B) (y : B) (o : Option A) → Some y ≡ option_map f o → (x : A) × (o ≡ Some x) × (y ≡ f x)
option_map_Some f y None e = absurd (cc)
option_map_Some f y (Some x) e = (x, refl, cc)

pub option_map_None : {A B : Type 0} (f : A → B) (o : Option A) → None ≡ option_map f o → o ≡ None
option_map_None f None e = refl
option_map_None f (Some x) e = absurd (cc)

pub IfSome_weaker : {A : Type 0} (P Q : A → Type 0) (o : Option A) → ((x : A) → P x → Q x) → IfSome o P → IfSome o Q
IfSome_weaker P Q None f a = tt
IfSome_weaker P Q (Some x) f a = f x a

pub some_none : {A : Type 0} (x : A) → ◌≡◌ {A = Option A} (Some x) None → ⊥
some_none x e = cc

pub none_some : {A : Type 0} (x : A) → ◌≡◌ {A = Option A} None (Some x) → ⊥
none_some x e = cc

pub is_some_map : {A B : Type 0} (f : A → B) (o : Option A) → is_some (option_map f o) ≡ is_some o
is_some_map f None = refl
is_some_map f (Some x) = refl

pub some_pair_first : {A B : Type 0} (p q : A × B) → Some p ≡ Some q → p.0 ≡ q.0
some_pair_first p q e = cc

pub some_pair_second : {A B : Type 0} (p q : A × B) → Some p ≡ Some q → p.1 ≡ q.1
some_pair_second p q e = cc

pub none_from_not_some : {A : Type 0} (o : Option A) → not (is_some o) ≡ true → o ≡ None
none_from_not_some None e = refl
none_from_not_some (Some a) e = absurd (both_ways false refl e)

pub some_injective : {A : Type 0} {x y : A} → Some x ≡ Some y → x ≡ y
some_injective e = cc

pub AllByRecursion_slice_get : {A : Type 0} (P : A → Type 0) (xs : List A) → AllByRecursion P xs → (k : ℕ) (x : A) → slice_get xs k ≡ Some x → P x
AllByRecursion_slice_get P [] h k x e = absurd (cc)
AllByRecursion_slice_get P (y ∷ ys) h zero x e = let same : y ≡ x = cc in subst P same h.0
AllByRecursion_slice_get P (y ∷ ys) h (suc k) x e = AllByRecursion_slice_get P ys h.1 k x e

pub slice_get_map : {A B : Type 0} (f : A → B) (xs : List A) (n : ℕ) (x : A) → slice_get xs n ≡ Some x → slice_get (map f xs) n ≡ Some (f x)
slice_get_map f [] n x e = absurd (none e)
  where
    none : ◌≡◌ {A = Option _} None (Some x) → ⊥
    none e = cc
slice_get_map f (y ∷ xs) zero x e = let same : y ≡ x = cc in ap (λ z. Some (f z)) same
slice_get_map f (y ∷ xs) (suc n) x e = slice_get_map f xs n x e

pub first_of_none : {A : Type 0} (x y : Option A) → first_of x y ≡ None → (x ≡ None) × (y ≡ None)
first_of_none None y e = (refl, e)
first_of_none (Some a) y e = absurd (cc)
