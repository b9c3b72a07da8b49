-- The least free numbers: none is taken, and they grow.
use Rattle.std.proofs.Common.{◌≡◌, ℕ, zero, suc, ◌+◌, ◌<◌, ◌≤◌, Bool, true, false, cond, not, ◌||◌, ◌==◌, List, [], ◌∷◌, length, filter, refl, sym, ap, ◌∙◌, eqb-true, arith}
use Rattle.std.proofs.lemmas.Bool.{both_ways}
use Rattle.std.specs.List.{AllByRecursion, IsDistinct, list_any}
use Rattle.cv_inline.specs.Draws.{least_free, labels_from}

pub either_way : {A : Type 0} (b : Bool) → (b ≡ true → A) → (b ≡ false → A) → A
either_way true f g = f refl
either_way false f g = g refl

module _ (is_taken : ℕ → Bool) where
  pub free_from : (k n : ℕ) → n ≤ least_free is_taken k n
  free_from zero n = omega arith
  free_from (suc k) n = go (is_taken n) (free_from k (suc n))
    where
      go : (b : Bool) → suc n ≤ least_free is_taken k (suc n) → n ≤ cond b (least_free is_taken k (suc n)) n
      go true h = omega arith
      go false h = omega arith

  pub free_below : (k n : ℕ) → least_free is_taken k n ≤ n + k
  free_below zero n = omega arith
  free_below (suc k) n = go (is_taken n) (free_below k (suc n))
    where
      go : (b : Bool) → least_free is_taken k (suc n) ≤ suc n + k → cond b (least_free is_taken k (suc n)) n ≤ n + suc k
      go true h = omega arith
      go false h = omega arith

-- among as many numbers as there are items and one more one hits none, where an item is hit by one number at most
module _ {A : Type 0} (hits : ℕ → A → Bool) (bound : ℕ) (once : (m n : ℕ) (a : A) → m < bound → n < bound → hits m a ≡ true → hits n a ≡ true → m ≡ n) where
  at_most : (n : ℕ) (left : List A) → length (filter (λ a. not (hits n a)) left) ≤ length left
  at_most n [] = omega arith
  at_most n (a ∷ left) = go (hits n a) (at_most n left)
    where
      rest : List A
      rest = filter (λ a. not (hits n a)) left

      go : (b : Bool) → length rest ≤ length left → length (cond (not b) (a ∷ rest) rest) ≤ suc (length left)
      go true h = omega arith
      go false h = omega arith

  fewer : (n : ℕ) (left : List A) → list_any (hits n) left ≡ true → length (filter (λ a. not (hits n a)) left) < length left
  fewer n [] e = absurd (both_ways false refl e)
  fewer n (a ∷ left) e = go (hits n a) e (at_most n left) (fewer n left)
    where
      rest : List A
      rest = filter (λ a. not (hits n a)) left

      go : (b : Bool) → (b || list_any (hits n) left) ≡ true → length rest ≤ length left → (list_any (hits n) left ≡ true → length rest < length left) → length (cond (not b) (a ∷ rest) rest) < suc (length left)
      go true f h k = omega arith
      go false f h k = omega (arith, k f)

  stays : (m n : ℕ) (left : List A) → m < bound → n < bound → (m ≡ n → ⊥) → list_any (hits m) left ≡ true → list_any (hits m) (filter (λ a. not (hits n a)) left) ≡ true
  stays m n [] p q apart e = e
  stays m n (a ∷ left) p q apart e = go (hits n a) refl (hits m a) refl e (stays m n left p q apart)
    where
      rest : List A
      rest = filter (λ a. not (hits n a)) left

      go : (b : Bool) → hits n a ≡ b → (c : Bool) → hits m a ≡ c → (c || list_any (hits m) left) ≡ true → (list_any (hits m) left ≡ true → list_any (hits m) rest ≡ true) → list_any (hits m) (cond (not b) (a ∷ rest) rest) ≡ true
      go true f true g e k = absurd (apart (once m n a p q g f))
      go true f false g e k = k e
      go false f true g e k = ap (λ c. c || list_any (hits m) rest) g
      go false f false g e k = ap (λ c. c || list_any (hits m) rest) g ∙ k e

  free_among : (taken left : List A) (k n : ℕ) → n + k < bound → length left ≤ k → ((m : ℕ) → n ≤ m → m < bound → list_any (hits m) taken ≡ true → list_any (hits m) left ≡ true)
      → list_any (hits (least_free (λ m. list_any (hits m) taken) k n)) taken ≡ false
  free_among taken (a ∷ left) zero n b l h = absurd (omega arith)
  free_among taken [] zero n b l h = either_way (list_any (hits n) taken) (λ e. absurd (both_ways _ refl (h n (omega arith) (omega arith) e))) (λ e. e)
  free_among taken left (suc k) n b l h =
      go (list_any (hits n) taken) refl
      (λ e. let f : length (filter (λ a. not (hits n a)) left) < length left = fewer n left (h n (omega arith) (omega arith) e) in
      free_among taken (filter (λ a. not (hits n a)) left) k (suc n) (omega arith) (omega arith)
      (λ m p q i. stays m n left q (omega arith) (λ z. omega arith) (h m (omega arith) q i)))
    where
      go : (b : Bool) → list_any (hits n) taken ≡ b → (list_any (hits n) taken ≡ true → list_any (hits (least_free (λ m. list_any (hits m) taken) k (suc n))) taken ≡ false)
          → list_any (hits (cond b (least_free (λ m. list_any (hits m) taken) k (suc n)) n)) taken ≡ false
      go true e k = k e
      go false e k = e

  pub is_free : (taken : List A) (n : ℕ) → n + length taken < bound → list_any (hits (least_free (λ m. list_any (hits m) taken) (length taken) n)) taken ≡ false
  is_free taken n b = free_among taken taken (length taken) n b (omega arith) (λ m p q e. e)

-- labels

abbrev least_label : List ℕ → ℕ → ℕ
least_label taken n = least_free (λ k. list_any (λ t. t == k) taken) (length taken) n

label_free : (taken : List ℕ) (n : ℕ) → list_any (λ t. t == least_label taken n) taken ≡ false
label_free taken n = is_free (λ k t. t == k) (suc (n + length taken)) (λ m k a p q e f. sym (eqb-true a m e) ∙ eqb-true a k f) taken n (omega arith)

pub as_many_labels : (taken : List ℕ) (n : ℕ) (ds : List (ℕ × ℕ)) → length (labels_from taken n ds) ≡ length ds
as_many_labels taken n [] = refl
as_many_labels taken n (d ∷ ds) = ap suc (as_many_labels taken (suc (least_label taken n)) ds)

pub labels_free : (taken : List ℕ) (n : ℕ) (ds : List (ℕ × ℕ)) → AllByRecursion (λ l. list_any (λ t. t == l) taken ≡ false) (labels_from taken n ds)
labels_free taken n [] = tt
labels_free taken n (d ∷ ds) = (label_free taken n, labels_free taken (suc (least_label taken n)) ds)

pub labels_above : (taken : List ℕ) (m n : ℕ) (ds : List (ℕ × ℕ)) → m ≤ n → AllByRecursion (λ l. m ≤ l) (labels_from taken n ds)
labels_above taken m n [] p = tt
labels_above taken m n (d ∷ ds) p =
    let f : n ≤ least_label taken n = free_from (λ k. list_any (λ t. t == k) taken) (length taken) n in (omega arith, labels_above taken m (suc (least_label taken n)) ds (omega arith))

less_apart : (n m : ℕ) → suc n ≤ m → (n == m) ≡ false
less_apart n m p = either_way (n == m) (λ e. absurd (let q : n ≡ m = eqb-true n m e in omega arith)) (λ e. e)

pub above_apart : (n : ℕ) (xs : List ℕ) → AllByRecursion (λ l. suc n ≤ l) xs → AllByRecursion (λ y. (n == y) ≡ false) xs
above_apart n [] a = tt
above_apart n (x ∷ xs) a = (less_apart n x a.0, above_apart n xs a.1)

pub labels_differ : (taken : List ℕ) (n : ℕ) (ds : List (ℕ × ℕ)) → IsDistinct ◌==◌ (labels_from taken n ds)
unfolding IsDistinct
labels_differ taken n [] = tt
labels_differ taken n (d ∷ ds) =
    let l : ℕ = least_label taken n in (above_apart l (labels_from taken (suc l) ds) (labels_above taken (suc l) (suc l) ds (omega arith)), labels_differ taken (suc (least_label taken n)) ds)
