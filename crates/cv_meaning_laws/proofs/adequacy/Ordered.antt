-- Lists each of whose elements is related to each later one.
use Rattle.std.proofs.Common.{ℕ, zero, suc, ◌<◌, List, [], ◌∷◌, ◌++◌, flat_map, map, ◌⊎◌, inl, inr, refl, sym, subst, arith}
use Rattle.std.proofs.lemmas.List.Kept.{AllPairs-cons}
use Rattle.std.specs.List.{AllPairs}
use Rattle.cv_meaning.specs.Candidates.{below}
use Rattle.cv_meaning_laws.proofs.Listed.{Has}
use Rattle.cv_meaning_laws.proofs.adequacy.Lists.{has_append, flat_map_has, map_has, below_has, has_all}

abbrev pub Ordered : {A : Type 0} → (A → A → Type 0) → List A → Type 0
Ordered R [] = Unit {0}
Ordered R (x ∷ xs) = ((y : _) → Has xs y → R x y) × Ordered R xs

pub ordered_pairs : {A : Type 0} (R : A → A → Type 0) (xs : List A) → Ordered R xs → AllPairs R xs
ordered_pairs R [] h i j d l k = absurd (omega arith)
ordered_pairs R (x ∷ xs) h i j d l k = AllPairs-cons R x xs (has_all (R x) xs h.0) (ordered_pairs R xs h.1) i j d l k

pub ordered_append : {A : Type 0} (R : A → A → Type 0) (xs ys : List A) → Ordered R xs → Ordered R ys → ((x y : A) → Has xs x → Has ys y → R x y) → Ordered R (xs ++ ys)
ordered_append R [] ys h k r = k
ordered_append R (x ∷ xs) ys h k r = (λ y i. go y (has_append xs ys y i), ordered_append R xs ys h.1 k (λ a b i j. r a b (inr i) j))
  where
    go : (y : _) → Has xs y ⊎ Has ys y → R x y
    go y (inl i) = h.0 y i
    go y (inr i) = r x y (inl refl) i

pub ordered_map : {A B : Type 0} (S : A → A → Type 0) (R : B → B → Type 0) (f : A → B) → ((x y : A) → S x y → R (f x) (f y)) → (xs : List A) → Ordered S xs → Ordered R (map f xs)
ordered_map S R f r [] h = tt
ordered_map S R f r (x ∷ xs) h = (λ y i. let s = map_has f xs y i in subst (R (f x)) (sym s.2) (r x s.0 (h.0 s.0 s.1)), ordered_map S R f r xs h.1)

pub ordered_flat_map : {A B : Type 0} (S : A → A → Type 0) (R : B → B → Type 0) (f : A → List B) → ((x : A) → Ordered R (f x)) → ((x y : A) (a b : B) → S x y → Has (f x) a → Has (f y) b → R a b) → (xs : List A) → Ordered S xs → Ordered R (flat_map f xs)
ordered_flat_map S R f each r [] h = tt
ordered_flat_map S R f each r (x ∷ xs) h =
    ordered_append R (f x) (flat_map f xs) (each x) (ordered_flat_map S R f each r xs h.1)
    (λ a b i j. let s = flat_map_has f xs b j in r x s.0 a b (h.0 s.0 s.1) i s.2)

pub ordered_below : (n : ℕ) → Ordered (λ v w. v < w) (below n)
ordered_below zero = tt
ordered_below (suc n) = ordered_append (λ v w. v < w) (below n) (n ∷ []) (ordered_below n) (λ y i. absurd i, tt) (λ v w i j. last v w (below_has n v i) j)
  where
    last : (v w : ℕ) → v < n → Has (n ∷ []) w → v < w
    last v w l (inl e) = omega arith
    last v w l (inr e) = absurd e
