-- Where each element that passes meets one of another list that passes, and no two meet the same, no more
-- pass than there.
use Rattle.std.proofs.Common.{◌≡◌, ◌+◌, ◌≤◌, Bool, true, false, cond, List, [], ◌∷◌, ◌⊎◌, inl, inr, refl, sym, ap, subst, ◌∙◌, arith}
use Rattle.std.proofs.lemmas.List.Sums.{sum_by-cons}
use Rattle.std.specs.List.{count_by}
use Rattle.cv_meaning_laws.proofs.Listed.{Has}
use Rattle.cv_meaning_laws.proofs.adequacy.Ordered.{Ordered}

-- how many pass, of a list with an element in front
count_front : {A : Type 0} (p : A → Bool) (x : A) (xs : List A) (b : Bool) → p x ≡ b → count_by p (x ∷ xs) ≡ cond b 1 0 + count_by p xs
count_front p x xs b e = sum_by-cons (λ y. cond (p y) 1 0) x xs ∙ ap (λ b. cond b 1 0 + count_by p xs) e

-- the list without one of its elements
others : {A : Type 0} (ys : List A) (y : A) → Has ys y → List A
others [] y h = absurd h
others (z ∷ ys) y (inl e) = ys
others (z ∷ ys) y (inr h) = z ∷ others ys y h

count_others : {A : Type 0} (p : A → Bool) (ys : List A) (y : A) (h : Has ys y) → p y ≡ true → count_by p ys ≡ 1 + count_by p (others ys y h)
unfolding others
count_others p [] y h e = absurd h
count_others p (z ∷ ys) y (inl i) e = count_front p z ys true (ap p (sym i) ∙ e)
count_others p (z ∷ ys) y (inr h) e =
    let a = count_front p z ys (p z) refl in
    let b = count_front p z (others ys y h) (p z) refl in
    let c = count_others p ys y h e in
    omega arith

other_or_same : {A : Type 0} (ys : List A) (y : A) (h : Has ys y) (z : A) → Has ys z → (z ≡ y) ⊎ Has (others ys y h) z
unfolding others
other_or_same [] y h z k = absurd h
other_or_same (x ∷ ys) y (inl i) z (inl j) = inl (j ∙ sym i)
other_or_same (x ∷ ys) y (inl i) z (inr k) = inr k
other_or_same (x ∷ ys) y (inr h) z (inl j) = inr (inl j)
other_or_same (x ∷ ys) y (inr h) z (inr k) = go (other_or_same ys y h z k)
  where
    go : (z ≡ y) ⊎ Has (others ys y h) z → (z ≡ y) ⊎ Has (x ∷ others ys y h) z
    go (inl e) = inl e
    go (inr i) = inr (inr i)

pub count_paired : {A B : Type 0} (q : A → Bool) (p : B → Bool) (meets : A → B → Type 0) (xs : List A) (ys : List B)
    → Ordered (λ x z. (y : B) → meets x y → meets z y → ⊥) xs
    → ((x : A) → Has xs x → q x ≡ true → (y : B) × Has ys y × (p y ≡ true) × meets x y) → count_by q xs ≤ count_by p ys
count_paired q p meets [] ys apart h = omega arith
count_paired {A} {B} q p meets (x ∷ xs) ys apart h = go (q x) refl (λ zs. count_paired q p meets xs zs apart.1)
  where
    go : (b : Bool) → q x ≡ b → ((zs : List B) → ((z : A) → Has xs z → q z ≡ true → (y : B) × Has zs y × (p y ≡ true) × meets z y) → count_by q xs ≤ count_by p zs) → count_by q (x ∷ xs) ≤ count_by p ys
    go false e ih = let a = count_front q x xs false e in let b = ih ys (λ z k. h z (inr k)) in omega arith
    go true e ih =
        let m : (y : B) × Has ys y × (p y ≡ true) × meets x y = h x (inl refl) e in
        let a = count_front q x xs true e in
        let b = count_others p ys m.0 m.1 m.2 in
        let c = ih (others ys m.0 m.1) (λ z k i. let n = h z (inr k) i in (n.0, later z k m n (other_or_same ys m.0 m.1 n.0 n.1), n.2, n.3)) in
        omega arith
      where
        later : (z : A) → Has xs z → (m : (y : B) × Has ys y × (p y ≡ true) × meets x y) (n : (y : B) × Has ys y × (p y ≡ true) × meets z y)
            → (n.0 ≡ m.0) ⊎ Has (others ys m.0 m.1) n.0 → Has (others ys m.0 m.1) n.0
        later z k m n (inl e) = absurd (apart.0 z k m.0 m.3 (subst (meets z) e n.3))
        later z k m n (inr i) = i
