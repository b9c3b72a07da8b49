-- Lists: their elements, by test and by position.
use Rattle.std.proofs.Common.{cond, filter, subst, ◌≡◌, ℕ, zero, suc, ◌<◌, ◌≢◌, Bool, true, false, ◌||◌, ◌==◌, List, [], ◌∷◌, ◌++◌, flat_map, map, ◌⊎◌, inl, inr, Some, refl, sym, ap, ◌∙◌, arith, eqb-true}
use Rattle.std.proofs.lemmas.Bool.{both_ways, and_parts, and_from, eqb-false, or_right}
use Rattle.std.proofs.lemmas.Option.{slice_get-get_or, slice_get_within, get_or_from_slice_get}
use Rattle.std.specs.List.{list_any, list_all, All, Contains}
use Rattle.cv_meaning.specs.Candidates.{below}
use Rattle.cv_meaning_laws.proofs.Listed.{Has, has_left, has_right}
use Rattle.cv_meaning_laws.specs.adequacy.Broken.{StandsAt}
use Rattle.cv_syntax_trees.proofs.lists.Tests.{or_cases}

pub any_has : {A : Type 0} (p : A → Bool) (xs : List A) → list_any p xs ≡ true → (x : A) × Has xs x × (p x ≡ true)
any_has p [] h = absurd (both_ways _ refl h)
any_has p (x ∷ xs) h = go (or_cases (p x) _ h) (any_has p xs)
  where
    go : (p x ≡ true) ⊎ (list_any p xs ≡ true) → (list_any p xs ≡ true → (y : _) × Has xs y × (p y ≡ true)) → (y : _) × Has (x ∷ xs) y × (p y ≡ true)
    go (inl e) ih = (x, inl refl, e)
    go (inr e) ih = let r = ih e in (r.0, inr r.1, r.2)

pub has_any : {A : Type 0} (p : A → Bool) (xs : List A) (x : A) → Has xs x → p x ≡ true → list_any p xs ≡ true
has_any p [] x h e = absurd h
has_any p (y ∷ xs) x (inl h) e = ap (λ b. b || list_any p xs) (ap p (sym h) ∙ e)
has_any p (y ∷ xs) x (inr h) e = or_right (p y) _ (has_any p xs x h e)

pub has_append : {A : Type 0} (xs ys : List A) (a : A) → Has (xs ++ ys) a → Has xs a ⊎ Has ys a
has_append [] ys a h = inr h
has_append (x ∷ xs) ys a (inl h) = inl (inl h)
has_append (x ∷ xs) ys a (inr h) = go (has_append xs ys a h)
  where
    go : Has xs a ⊎ Has ys a → Has (x ∷ xs) a ⊎ Has ys a
    go (inl k) = inl (inr k)
    go (inr k) = inr k

pub flat_map_has : {A B : Type 0} (f : A → List B) (xs : List A) (b : B) → Has (flat_map f xs) b → (a : A) × Has xs a × Has (f a) b
flat_map_has f [] b h = absurd h
flat_map_has f (x ∷ xs) b h = go (has_append (f x) (flat_map f xs) b h) (flat_map_has f xs b)
  where
    go : Has (f x) b ⊎ Has (flat_map f xs) b → (Has (flat_map f xs) b → (a : _) × Has xs a × Has (f a) b) → (a : _) × Has (x ∷ xs) a × Has (f a) b
    go (inl k) ih = (x, inl refl, k)
    go (inr k) ih = let r = ih k in (r.0, inr r.1, r.2)

pub map_has : {A B : Type 0} (f : A → B) (xs : List A) (b : B) → Has (map f xs) b → (a : A) × Has xs a × (b ≡ f a)
map_has f [] b h = absurd h
map_has f (x ∷ xs) b (inl h) = (x, inl refl, h)
map_has f (x ∷ xs) b (inr h) = let r = map_has f xs b h in (r.0, inr r.1, r.2)

pub filter_has : {A : Type 0} (p : A → Bool) (xs : List A) (x : A) → Has (filter p xs) x → Has xs x × (p x ≡ true)
filter_has p [] x h = absurd h
filter_has p (y ∷ xs) x h = go (p y) refl h (filter_has p xs x)
  where
    go : (b : Bool) → p y ≡ b → Has (cond b (y ∷ filter p xs) (filter p xs)) x → (Has (filter p xs) x → Has xs x × (p x ≡ true)) → Has (y ∷ xs) x × (p x ≡ true)
    go true k (inl e) ih = (inl e, ap p e ∙ k)
    go true k (inr i) ih = let r = ih i in (inr r.0, r.1)
    go false k i ih = let r = ih i in (inr r.0, r.1)

pub has_filter : {A : Type 0} (p : A → Bool) (xs : List A) (x : A) → Has xs x → p x ≡ true → Has (filter p xs) x
has_filter p [] x h k = absurd h
has_filter p (y ∷ xs) x (inl e) k = subst (λ b. Has (cond b (y ∷ filter p xs) (filter p xs)) x) (sym (ap p (sym e) ∙ k)) (inl e)
has_filter p (y ∷ xs) x (inr i) k = go (p y) (has_filter p xs x i k)
  where
    go : (b : Bool) → Has (filter p xs) x → Has (cond b (y ∷ filter p xs) (filter p xs)) x
    go true i = inr i
    go false i = i

-- positions

pub stands_has : {A : Type 0} (xs : List A) (k : ℕ) (x : A) → StandsAt xs k x → Has xs x
stands_has [] k x h = cc
stands_has (y ∷ xs) zero x h = let e : x ≡ y = cc in inl e
stands_has (y ∷ xs) (suc k) x h = inr (stands_has xs k x h)

pub has_stands : {A : Type 0} (xs : List A) (x : A) → Has xs x → (k : ℕ) × StandsAt xs k x
has_stands [] x h = absurd h
has_stands (y ∷ xs) x (inl h) = (zero, ap Some (sym h))
has_stands (y ∷ xs) x (inr h) = let r = has_stands xs x h in (suc r.0, r.1)

pub contains_has : {A : Type 0} (xs : List A) (x : A) → Contains xs x → Has xs x
contains_has xs x h = stands_has xs h.0 x (slice_get-get_or xs h.0 x h.1 ∙ ap Some h.2)

pub has_contains : {A : Type 0} (xs : List A) (x : A) → Has xs x → Contains xs x
has_contains xs x h = let s = has_stands xs x h in (s.0, slice_get_within xs s.0 x s.1, get_or_from_slice_get xs s.0 x x s.1)

pub all_stands : {A : Type 0} (p : A → Bool) (xs : List A) → list_all p xs ≡ true → (k : ℕ) (x : A) → StandsAt xs k x → p x ≡ true
all_stands p [] e k x h = cc
all_stands p (y ∷ xs) e zero x h = let q : y ≡ x = cc in ap p (sym q) ∙ (and_parts (p y) _ e).0
all_stands p (y ∷ xs) e (suc k) x h = all_stands p xs (and_parts (p y) _ e).1 k x h

pub stands_all : {A : Type 0} (p : A → Bool) (xs : List A) → ((k : ℕ) (x : A) → StandsAt xs k x → p x ≡ true) → list_all p xs ≡ true
stands_all p [] h = refl
stands_all p (y ∷ xs) h = and_from (p y) _ (h zero y refl) (stands_all p xs (λ k. h (suc k)))

-- numbers below a number

pub below_has : (n v : ℕ) → Has (below n) v → v < n
below_has zero v h = absurd h
below_has (suc n) v h = go (has_append (below n) (n ∷ []) v h) (below_has n v)
  where
    go : Has (below n) v ⊎ Has (n ∷ []) v → (Has (below n) v → v < n) → v < suc n
    go (inl k) ih = let r = ih k in omega arith
    go (inr (inl e)) ih = omega arith
    go (inr (inr k)) ih = absurd k

pub has_below : (n v : ℕ) → v < n → Has (below n) v
has_below zero v h = absurd (omega arith)
has_below (suc n) v h = go (v == n) refl (has_below n v)
  where
    go : (b : Bool) → (v == n) ≡ b → (v < n → Has (below n) v) → Has (below n ++ n ∷ []) v
    go true e ih = has_right (below n) (n ∷ []) v (inl (eqb-true v n e))
    go false e ih = has_left (below n) (n ∷ []) v (ih (let ne : v ≢ n = eqb-false v n e in omega arith))

-- what holds of each element

pub has_all : {A : Type 0} (P : A → Type 0) (xs : List A) → ((x : A) → Has xs x → P x) → All P xs
has_all P xs h k d l = h _ (stands_has xs k _ (slice_get-get_or xs k d l))
