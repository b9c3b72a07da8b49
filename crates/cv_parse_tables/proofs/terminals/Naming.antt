-- Where a text stands among names, and how it is added to them.
use Rattle.std.proofs.Common.{◌≡◌, ◌≢◌, ℕ, zero, suc, ◌+◌, ◌≤◌, ◌⊎◌, inl, inr, List, [], ◌∷◌, ◌++◌, length, refl, ap, sym, ◌∙◌, arith, Some, true, false}
use Rattle.std.specs.Prelude.{slice_get}
use Rattle.std.specs.Str.{bytes_eq}
use Rattle.std.proofs.lemmas.Slice.Eq.{bytes_eq-Decides}
use Rattle.std.proofs.lemmas.Bool.{false_from_ne_true}
use Rattle.std.proofs.lemmas.List.{append-nil}
use Rattle.cv_pool.specs.names.Texts.{NoRepeat}
use Rattle.cv_parse_tables.specs.terminals.Signs.{place_of, with_name}

-- two texts are the same, or the test tells them apart
pub text_test : (a b : List ℕ) → ((bytes_eq a b ≡ true) × (a ≡ b)) ⊎ (bytes_eq a b ≡ false)
text_test a b = by_test (bytes_eq a b) refl where
  by_test : (r : _) → bytes_eq a b ≡ r → ((bytes_eq a b ≡ true) × (a ≡ b)) ⊎ (bytes_eq a b ≡ false)
  by_test true e = inl (e, (bytes_eq-Decides a b).0 e)
  by_test false e = inr e

-- a text that stands somewhere stands at its place
pub stands : (names : List (List ℕ)) (text : List ℕ) (n : ℕ) → slice_get names n ≡ Some text → slice_get names (place_of names text) ≡ Some text
stands [] text n h = absurd (cc)
stands (x ∷ xs) text zero h = let same : bytes_eq x text ≡ true = (bytes_eq-Decides x text).1 (cc) in rw same h
stands (x ∷ xs) text (suc n) h =
    elim (text_test x text) [
      | inl a ↦ rw a.0 (ap (λ t. Some t) a.1)
      | inr b ↦ rw b (stands xs text n h)
    ]

-- and isn't added
pub with_name_old : (names : List (List ℕ)) (text : List ℕ) (n : ℕ) → slice_get names n ≡ Some text → with_name names text ≡ names
with_name_old [] text n h = absurd (cc)
with_name_old (x ∷ xs) text zero h = let same : bytes_eq x text ≡ true = (bytes_eq-Decides x text).1 (cc) in rw same
with_name_old (x ∷ xs) text (suc n) h =
    elim (text_test x text) [
      | inl a ↦ rw a.0
      | inr b ↦ rw b (ap (λ r. x ∷ r) (with_name_old xs text n h))
    ]

absent_head : (x : List ℕ) (xs : List (List ℕ)) (text : List ℕ) → ((n : ℕ) → slice_get (x ∷ xs) n ≢ Some text) → bytes_eq x text ≡ false
absent_head x xs text h = false_from_ne_true (bytes_eq x text) (λ t. h 0 (ap (λ s. Some s) ((bytes_eq-Decides x text).0 t)))

-- a text that stands nowhere has the place behind the last, and is added there
pub place_of_new : (names : List (List ℕ)) (text : List ℕ) → ((n : ℕ) → slice_get names n ≢ Some text) → place_of names text ≡ length names
place_of_new [] text h = refl
place_of_new (x ∷ xs) text h = let e = absent_head x xs text h in rw e (ap suc (place_of_new xs text (λ n. h (suc n))))

pub with_name_new : (names : List (List ℕ)) (text : List ℕ) → ((n : ℕ) → slice_get names n ≢ Some text) → with_name names text ≡ names ++ text ∷ []
with_name_new [] text h = refl
with_name_new (x ∷ xs) text h = let e = absent_head x xs text h in rw e (ap (λ r. x ∷ r) (with_name_new xs text (λ n. h (suc n))))

-- there is at most one name more
pub length_with_name : (names : List (List ℕ)) (text : List ℕ) → length (with_name names text) ≤ length names + 1
length_with_name [] text = omega arith
length_with_name (x ∷ xs) text =
    elim (text_test x text) [
      | inl a ↦ rw a.0 (omega arith)
      | inr b ↦ rw b (let rest = length_with_name xs text in omega arith)
    ]

-- nothing goes before the names that were there
pub with_name_behind : (names : List (List ℕ)) (text : List ℕ) → (more : List (List ℕ)) × (with_name names text ≡ names ++ more)
with_name_behind [] text = (text ∷ [], refl)
with_name_behind (x ∷ xs) text =
    elim (text_test x text) [
      | inl a ↦ rw a.0 ([], ap (λ l. x ∷ l) (sym (append-nil xs)))
      | inr b ↦ rw b (let rest = with_name_behind xs text in (rest.0, ap (λ l. x ∷ l) rest.1))
    ]

-- the only place at which a text stands is its place
pub only_place : (names : List (List ℕ)) (text : List ℕ) (n : ℕ) → slice_get names n ≡ Some text → ((p : ℕ) → slice_get names p ≡ Some text → n ≡ p) → n ≡ place_of names text
only_place names text n h only = only (place_of names text) (stands names text n h)

-- a name keeps its place
pub with_name_keeps : (names : List (List ℕ)) (text : List ℕ) (n : ℕ) (name : List ℕ) → slice_get names n ≡ Some name → slice_get (with_name names text) n ≡ Some name
with_name_keeps [] text n name h = absurd (cc)
with_name_keeps (x ∷ xs) text zero name h = elim (text_test x text) [ inl a ↦ rw a.0 h | inr b ↦ rw b h ]
with_name_keeps (x ∷ xs) text (suc n) name h = elim (text_test x text) [ inl a ↦ rw a.0 h | inr b ↦ rw b (with_name_keeps xs text n name h) ]

-- the text stands at its place
pub with_name_has : (names : List (List ℕ)) (text : List ℕ) → slice_get (with_name names text) (place_of names text) ≡ Some text
with_name_has [] text = refl
with_name_has (x ∷ xs) text =
    elim (text_test x text) [
      | inl a ↦ rw a.0 (ap (λ t. Some t) a.1)
      | inr b ↦ rw b (with_name_has xs text)
    ]

-- a text that differs from the first name and stands nowhere behind it
fresh : (x : List ℕ) (xs : List (List ℕ)) (text : List ℕ) (n : ℕ) → bytes_eq x text ≡ false → ((m : ℕ) → slice_get xs m ≢ Some text) → slice_get (x ∷ xs) n ≢ Some text
fresh x xs text zero b none e = let same : bytes_eq x text ≡ true = (bytes_eq-Decides x text).1 (cc) in cc
fresh x xs text (suc n) b none e = none n e

-- what stands among the names with a text stood there, or is the new text at the end
pub with_name_from : (names : List (List ℕ)) (text : List ℕ) (n : ℕ) (name : List ℕ) → slice_get (with_name names text) n ≡ Some name → (slice_get names n ≡ Some name) ⊎ ((n ≡ length names) × (name ≡ text) × ((m : ℕ) → slice_get names m ≢ Some text))
with_name_from [] text zero name h = inr (refl, cc, λ m e. cc)
with_name_from [] text (suc n) name h = absurd (cc)
with_name_from (x ∷ xs) text zero name h = elim (text_test x text) [ inl a ↦ inl (rw a.0 at h) | inr b ↦ inl (rw b at h) ]
with_name_from (x ∷ xs) text (suc n) name h =
    elim (text_test x text) [
      | inl a ↦ inl (rw a.0 at h)
      | inr b ↦ elim (with_name_from xs text n name (rw b at h)) [ inl old ↦ inl old | inr new ↦ inr (ap suc new.0, new.1, λ k. fresh x xs text k b new.2) ]
    ]

-- no text is there twice
pub with_name_apart : (names : List (List ℕ)) (text : List ℕ) → NoRepeat names → NoRepeat (with_name names text)
with_name_apart names text u i j t hi hj =
    elim (with_name_from names text i t hi) [
      | inl a ↦ elim (with_name_from names text j t hj) [
        | inl b ↦ u i j t a b
        | inr b ↦ absurd (b.2 i (a ∙ ap (λ s. Some s) b.1))
      ]
      | inr a ↦ elim (with_name_from names text j t hj) [
        | inl b ↦ absurd (a.2 j (b ∙ ap (λ s. Some s) a.1))
        | inr b ↦ a.0 ∙ sym b.0
      ]
    ]
