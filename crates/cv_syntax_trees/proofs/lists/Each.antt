-- A fact of each item of a list, by recursion; a test of some or of all items.
use Rattle.std.proofs.Common.{◌≡◌, ℕ, zero, suc, ◌<◌, Bool, true, false, List, [], ◌∷◌, ◌++◌, length, map, take, get_or, refl, ap₂, arith}
use Rattle.std.specs.Prelude.{◌||◌}
use Rattle.std.specs.List.{AllByRecursion, flat_map, list_any, list_all}
use Rattle.std.proofs.lemmas.Bool.{both_ways, or_parts}

pub AllByRecursion_weaker : {A : Type 0} (P Q : A → Type 0) → ((x : A) → P x → Q x) → (xs : List A) → AllByRecursion P xs → AllByRecursion Q xs
AllByRecursion_weaker P Q f [] a = tt
AllByRecursion_weaker P Q f (x ∷ xs) a = (f x a.0, AllByRecursion_weaker P Q f xs a.1)

-- where the fact is of every value
pub AllByRecursion_always : {A : Type 0} (P : A → Type 0) → ((x : A) → P x) → (xs : List A) → AllByRecursion P xs
AllByRecursion_always P f [] = tt
AllByRecursion_always P f (x ∷ xs) = (f x, AllByRecursion_always P f xs)

pub AllByRecursion_both : {A : Type 0} (P Q R : A → Type 0) → ((x : A) → P x → Q x → R x) → (xs : List A) → AllByRecursion P xs → AllByRecursion Q xs → AllByRecursion R xs
AllByRecursion_both P Q R f [] a b = tt
AllByRecursion_both P Q R f (x ∷ xs) a b = (f x a.0 b.0, AllByRecursion_both P Q R f xs a.1 b.1)

-- what is so of each two items of two lists
pub AllByRecursion_cross : {A B : Type 0} (P : A → Type 0) (Q : B → Type 0) (R : A → B → Type 0) → ((x : A) (y : B) → P x → Q y → R x y) → (xs : List A) (ys : List B) → AllByRecursion P xs → AllByRecursion Q ys → AllByRecursion (λ x. AllByRecursion (R x) ys) xs
AllByRecursion_cross P Q R f xs ys a b = AllByRecursion_weaker P (λ x. AllByRecursion (R x) ys) (λ x p. AllByRecursion_weaker Q (R x) (λ y. f x y p) ys b) xs a

pub AllByRecursion_append : {A : Type 0} (P : A → Type 0) (xs ys : List A) → AllByRecursion P xs → AllByRecursion P ys → AllByRecursion P (xs ++ ys)
AllByRecursion_append P [] ys a b = b
AllByRecursion_append P (x ∷ xs) ys a b = (a.0, AllByRecursion_append P xs ys a.1 b)

pub AllByRecursion_left : {A : Type 0} (P : A → Type 0) (xs ys : List A) → AllByRecursion P (xs ++ ys) → AllByRecursion P xs
AllByRecursion_left P [] ys a = tt
AllByRecursion_left P (x ∷ xs) ys a = (a.0, AllByRecursion_left P xs ys a.1)

pub AllByRecursion_right : {A : Type 0} (P : A → Type 0) (xs ys : List A) → AllByRecursion P (xs ++ ys) → AllByRecursion P ys
AllByRecursion_right P [] ys a = a
AllByRecursion_right P (x ∷ xs) ys a = AllByRecursion_right P xs ys a.1

pub AllByRecursion_push : {A : Type 0} (P : A → Type 0) (xs : List A) (x : A) → AllByRecursion P xs → P x → AllByRecursion P (xs ++ x ∷ [])
AllByRecursion_push P [] x a p = (p, tt)
AllByRecursion_push P (y ∷ xs) x a p = (a.0, AllByRecursion_push P xs x a.1 p)

pub AllByRecursion_get_or : {A : Type 0} (P : A → Type 0) (xs : List A) (i : ℕ) (d : A) → AllByRecursion P xs → i < length xs → P (get_or xs i d)
AllByRecursion_get_or P [] i d a l = absurd (omega arith)
AllByRecursion_get_or P (x ∷ xs) zero d a l = a.0
AllByRecursion_get_or P (x ∷ xs) (suc i) d a l = AllByRecursion_get_or P xs i d a.1 (omega arith)

pub AllByRecursion_map : {A B : Type 0} (P : B → Type 0) (f : A → B) → ((x : A) → P (f x)) → (xs : List A) → AllByRecursion P (map f xs)
AllByRecursion_map P f h [] = tt
AllByRecursion_map P f h (x ∷ xs) = (h x, AllByRecursion_map P f h xs)

pub AllByRecursion_flat_map : {A B : Type 0} (Q : A → Type 0) (P : B → Type 0) (f : A → List B) → ((x : A) → Q x → AllByRecursion P (f x)) → (xs : List A) → AllByRecursion Q xs → AllByRecursion P (flat_map f xs)
AllByRecursion_flat_map Q P f h [] a = tt
AllByRecursion_flat_map Q P f h (x ∷ xs) a = AllByRecursion_append P (f x) (flat_map f xs) (h x a.0) (AllByRecursion_flat_map Q P f h xs a.1)

-- tests

pub list_any_append : {A : Type 0} (p : A → Bool) (xs ys : List A) → list_any p (xs ++ ys) ≡ false → (list_any p xs ≡ false) × (list_any p ys ≡ false)
list_any_append p [] ys e = (refl, e)
list_any_append p (x ∷ xs) ys e = let d = or_parts (p x) _ e in let r = list_any_append p xs ys d.1 in (ap₂ ◌||◌ d.0 r.0, r.1)

pub AllByRecursion_parts : {A : Type 0} (P : A → Type 0) (xs ys : List A) → AllByRecursion P (xs ++ ys) → AllByRecursion P xs × AllByRecursion P ys
AllByRecursion_parts P [] ys k = (tt, k)
AllByRecursion_parts P (x ∷ xs) ys k = let r = AllByRecursion_parts P xs ys k.1 in ((k.0, r.0), r.1)

pub AllByRecursion_trivial : {A : Type 0} (xs : List A) → AllByRecursion (λ x. Unit {0}) xs
AllByRecursion_trivial [] = tt
AllByRecursion_trivial (x ∷ xs) = (tt, AllByRecursion_trivial xs)
