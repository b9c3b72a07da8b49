-- The items of a list by their places.
use Rattle.std.proofs.Common.{◌≡◌, ℕ, zero, suc, ◌+◌, List, [], ◌∷◌, ◌++◌, length, take, refl, ap, arith, Some, inl, inr, flat_map, map, reverse, ◌∙◌}
use Rattle.std.specs.Prelude.{◌⊎◌, slice_get}
use Rattle.std.proofs.lemmas.Grind.{flat_map-append}
use Rattle.std.proofs.lemmas.List.{reverse-append}

pub slice_get_append_left : {A : Type 0} (xs ys : List A) (i : ℕ) (x : A) → slice_get xs i ≡ Some x → slice_get (xs ++ ys) i ≡ Some x
slice_get_append_left [] ys i x e = absurd (cc)
slice_get_append_left (y ∷ xs) ys zero x e = e
slice_get_append_left (y ∷ xs) ys (suc i) x e = slice_get_append_left xs ys i x e

pub slice_get_append_right : {A : Type 0} (xs ys : List A) (i j : ℕ) → j + length xs ≡ i → slice_get (xs ++ ys) i ≡ slice_get ys j
slice_get_append_right [] ys i j e = let f : i ≡ j = omega arith in ap (slice_get ys) f
slice_get_append_right (x ∷ xs) ys zero j e = absurd (omega arith)
slice_get_append_right (x ∷ xs) ys (suc i) j e = let f : j + length xs ≡ i = omega arith in slice_get_append_right xs ys i j f

pub flat_flat : {A B C : Type 0} (f : B → List C) (h : A → List B) (xs : List A) → flat_map f (flat_map h xs) ≡ flat_map (λ x. flat_map f (h x)) xs
flat_flat f h [] = refl
flat_flat f h (x ∷ xs) = flat_map-append f (h x) (flat_map h xs) ∙ ap (λ ys. flat_map f (h x) ++ ys) (flat_flat f h xs)

pub flat_maps : {A B C : Type 0} (f : B → List C) (h : A → B) (xs : List A) → flat_map f (map h xs) ≡ flat_map (λ x. f (h x)) xs
flat_maps f h [] = refl
flat_maps f h (x ∷ xs) = ap (λ zs. f (h x) ++ zs) (flat_maps f h xs)

pub reverse_cons : {A : Type 0} (x : A) (xs : List A) → reverse (x ∷ xs) ≡ reverse xs ++ x ∷ []
reverse_cons x xs = reverse-append (x ∷ []) xs

pub length_map : {A B : Type 0} (f : A → B) (xs : List A) → length (map f xs) ≡ length xs
length_map f [] = refl
length_map f (x ∷ xs) = ap suc (length_map f xs)
