-- Where a text stands in a list without repeats.
use Rattle.std.proofs.Common.{◌≡◌, ◌≢◌, ℕ, zero, suc, ◌<◌, ◌↔◌, ◌⊎◌, inl, inr, List, [], ◌∷◌, ◌++◌, length, take, refl, ap, sym, ◌∙◌, arith, subst, get_or, Some, Bool, true, false, ◌||◌}
use Rattle.std.specs.Prelude.{slice_get, string_bytes, position}
use Rattle.std.specs.List.{list_any}
use Rattle.std.specs.Str.{bytes_eq}
use Rattle.std.specs.String.{string_eq}
use Rattle.std.specs.declared.string.String.{String}
use Rattle.std.specs.declared.alloc.Global.{Global}
use Rattle.std.proofs.lemmas.List.{length-map, map-append}
use Rattle.std.proofs.lemmas.Slice.Eq.{bytes_eq-Decides}
use Rattle.std.proofs.lemmas.List.Quantifiers.{position-Some}
use Rattle.std.proofs.lemmas.Bool.{false_from_ne_true}
use Rattle.indexmap.specs.IndexSet.{insert_key}
use Rattle.cv_pool.specs.declared.names.names.NameId.{NameId}
use Rattle.cv_pool.specs.names.Texts.{NoRepeat, texts_of}

pub length_texts : (keys : List (String Global)) → length (texts_of keys) ≡ length keys
length_texts keys = length-map keys string_bytes

-- the test by which a text is looked up
abbrev pub has_text : List ℕ → String Global → Bool
has_text q k = bytes_eq q (string_bytes k)

passes : (q : List ℕ) (keys : List (String Global)) (n : ℕ) (d : String Global) → has_text q (get_or keys n d) ≡ true → n < length keys → slice_get (texts_of keys) n ≡ Some q
passes q [] n d h l = absurd (omega arith)
passes q (k ∷ keys) zero d h l = ap (λ t. Some t) (sym ((bytes_eq-Decides q (string_bytes k)).0 h))
passes q (k ∷ keys) (suc n) d h l = let m : n < length keys = omega arith in passes q keys n d h m

-- a text that is found stands there
pub hits : (keys : List (String Global)) (q : List ℕ) (i : ℕ) → position (has_text q) keys ≡ Some i → slice_get (texts_of keys) i ≡ Some q
hits [] q i e = absurd (cc)
hits (k ∷ keys) q i e = let at = position-Some (has_text q) (k ∷ keys) i k e in passes q (k ∷ keys) i k at.1 at.0

pub found : (keys : List (String Global)) (q : List ℕ) (i : ℕ) → NoRepeat (texts_of keys) → position (has_text q) keys ≡ Some i → (texts : List (List ℕ)) → texts_of keys ≡ texts → (id : NameId) → (Some (record { 0 = i }) ≡ Some id) ↔ (slice_get texts id.0 ≡ Some q)
found keys q i u e texts v id = (
  λ same. let n : i ≡ id.0 = cc in subst (λ k. slice_get texts k ≡ Some q) n (subst (λ ts. slice_get ts i ≡ Some q) v (hits keys q i e)),
  λ h. ap (λ (n : ℕ). let r : NameId = record { 0 = n } in Some r) (u i id.0 q (hits keys q i e) (subst (λ ts. slice_get ts id.0 ≡ Some q) (sym v) h)),
)

or_right : (a b : Bool) → (a || b) ≡ false → b ≡ false
or_right true b h = absurd (cc)
or_right false b h = h

or_left : (a b : Bool) → (a || b) ≡ false → a ≡ true → ⊥
or_left true b h t = absurd (cc)
or_left false b h t = absurd (cc)

pub misses : (keys : List (String Global)) (q : List ℕ) → list_any (has_text q) keys ≡ false → (n : ℕ) → slice_get (texts_of keys) n ≢ Some q
misses [] q e n h = absurd (cc)
misses (k ∷ keys) q e zero h = or_left (has_text q k) (list_any (has_text q) keys) e ((bytes_eq-Decides q (string_bytes k)).1 (cc))
misses (k ∷ keys) q e (suc n) h = misses keys q (or_right (has_text q k) (list_any (has_text q) keys) e) n h

last_or_before : (xs : List (List ℕ)) (t s : List ℕ) (i : ℕ) → slice_get (xs ++ t ∷ []) i ≡ Some s → (slice_get xs i ≡ Some s) ⊎ ((i ≡ length xs) × (s ≡ t))
last_or_before [] t s zero h = inr (refl, cc)
last_or_before [] t s (suc i) h = absurd (cc)
last_or_before (x ∷ xs) t s zero h = inl h
last_or_before (x ∷ xs) t s (suc i) h = elim (last_or_before xs t s i h) [ inl a ↦ inl a | inr b ↦ inr (ap suc b.0, b.1) ]

pub NoRepeat_append : (xs : List (List ℕ)) (t : List ℕ) → NoRepeat xs → ((n : ℕ) → slice_get xs n ≢ Some t) → NoRepeat (xs ++ t ∷ [])
NoRepeat_append xs t u new i j s hi hj =
    elim (last_or_before xs t s i hi) [
      | inl a ↦ elim (last_or_before xs t s j hj) [
        | inl b ↦ u i j s a b
        | inr b ↦ absurd (new i (subst (λ r. slice_get xs i ≡ Some r) b.1 a))
      ]
      | inr a ↦ elim (last_or_before xs t s j hj) [
        | inl b ↦ absurd (new j (subst (λ r. slice_get xs j ≡ Some r) a.1 b))
        | inr b ↦ a.0 ∙ sym b.0
      ]
    ]

front : (xs : List (List ℕ)) (n i : ℕ) (t : List ℕ) → slice_get (take n xs) i ≡ Some t → slice_get xs i ≡ Some t
front [] zero i t h = h
front [] (suc n) i t h = h
front (x ∷ xs) zero i t h = absurd (cc)
front (x ∷ xs) (suc n) zero t h = h
front (x ∷ xs) (suc n) (suc i) t h = front xs n i t h

pub NoRepeat_take : (xs : List (List ℕ)) (n : ℕ) → NoRepeat xs → NoRepeat (take n xs)
NoRepeat_take xs n u i j t hi hj = u i j t (front xs n i t hi) (front xs n j t hj)

pub texts_take : (keys : List (String Global)) (n : ℕ) → texts_of (take n keys) ≡ take n (texts_of keys)
texts_take [] zero = refl
texts_take [] (suc n) = refl
texts_take (k ∷ keys) zero = refl
texts_take (k ∷ keys) (suc n) = ap (λ ts. string_bytes k ∷ ts) (texts_take keys n)

-- a text that is nowhere is put at the end
absent : (keys : List (String Global)) (o : String Global) → ((n : ℕ) → slice_get (texts_of keys) n ≢ Some (string_bytes o)) → list_any (string_eq o) keys ≡ false
absent [] o h = refl
absent (k ∷ keys) o h =
    let a : string_eq o k ≡ false = false_from_ne_true (string_eq o k) (λ t. h 0 (ap (λ s. Some s) (sym ((bytes_eq-Decides (string_bytes o) (string_bytes k)).0 t)))) in
    rw a (absent keys o (λ n. h (suc n)))

pub put_last : (keys : List (String Global)) (o : String Global) (q : List ℕ) (texts : List (List ℕ)) → texts_of keys ≡ texts → string_bytes o ≡ q → ((n : ℕ) → slice_get texts n ≢ Some q) → texts_of (insert_key string_eq keys o) ≡ texts ++ q ∷ []
put_last keys o q texts v b h =
    let a : list_any (string_eq o) keys ≡ false = absent keys o (λ n e. h n (subst (λ ts. slice_get ts n ≡ Some q) v (e ∙ ap (λ s. Some s) b))) in
    rw a (map-append string_bytes keys (o ∷ []) ∙ (ap (λ ts. ts ++ string_bytes o ∷ []) v ∙ ap (λ s. texts ++ s ∷ []) b))

pub ruleset places = (length_texts, texts_take, found, hits, misses, NoRepeat_append, NoRepeat_take, put_last)
