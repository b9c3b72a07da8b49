-- Candidates are looked for among tuples that are long and large enough; more of them add nothing.
use Rattle.std.proofs.Common.{◌≡◌, ℕ, zero, suc, ◌+◌, ◌≤◌, Bool, true, false, ◌&&◌, List, [], ◌∷◌, ◌++◌, map, flat_map, refl, sym, ap, ap₂, ◌∙◌, arith, nat_lt, le-ltb, append_assoc, append-nil}
use Rattle.std.proofs.Math.Path.{fun_ext}
use Rattle.cv_meaning.specs.Candidates.{tuples_up_to, below}
use Rattle.cv_syntax_trees.proofs.lists.Places.{flat_flat, flat_maps}

-- at most d numbers, each below n
abbrev pub within : ℕ → ℕ → List ℕ → Bool
within d n [] = true
within zero n (v ∷ u) = false
within (suc d) n (v ∷ u) = nat_lt v n && within d n u

abbrev pub Vanishes : {A : Type 0} → ℕ → ℕ → (List ℕ → List A) → Type 0
Vanishes d n f = (u : List ℕ) → within d n u ≡ false → f u ≡ []

flat_append : {A B : Type 0} (f : A → List B) (xs ys : List A) → flat_map f (xs ++ ys) ≡ flat_map f xs ++ flat_map f ys
flat_append f [] ys = refl
flat_append f (x ∷ xs) ys = ap (λ zs. f x ++ zs) (flat_append f xs ys) ∙ sym (append_assoc (f x) (flat_map f xs) (flat_map f ys))

flat_none : {A B : Type 0} (f : A → List B) (xs : List A) → ((x : A) → f x ≡ []) → flat_map f xs ≡ []
flat_none f [] h = refl
flat_none f (x ∷ xs) h = ap₂ (λ a b. a ++ b) (h x) (flat_none f xs h)

-- numbers from n on add nothing
fewer : {B : Type 0} (f : ℕ → List B) (n k : ℕ) → ((v : ℕ) → n ≤ v → f v ≡ []) → flat_map f (below (n + k)) ≡ flat_map f (below n)
fewer f n zero h = let e : n + zero ≡ n = omega arith in ap (λ m. flat_map f (below m)) e
fewer f n (suc k) h =
    let e : n + suc k ≡ suc (n + k) = omega arith in
    ap (λ m. flat_map f (below m)) e
    ∙ flat_append f (below (n + k)) ((n + k) ∷ [])
    ∙ ap₂ (λ a b. a ++ b) (fewer f n k h) (ap (λ x. x ++ []) (h (n + k) (omega arith)))
    ∙ append-nil (flat_map f (below n))

unfolded : {A : Type 0} (f : List ℕ → List A) (d n : ℕ) → flat_map f (tuples_up_to (suc d) n) ≡ f [] ++ flat_map (λ v. flat_map (λ u. f (v ∷ u)) (tuples_up_to d n)) (below n)
unfolding tuples_up_to
unfolded f d n =
    ap (λ z. f [] ++ z) (flat_flat f (λ v. map (λ u. v ∷ u) (tuples_up_to d n)) (below n)
    ∙ ap (λ h. flat_map h (below n)) (fun_ext (λ v. flat_maps f (λ u. v ∷ u) (tuples_up_to d n))))

pub wider : {A : Type 0} (f : List ℕ → List A) (d n i k : ℕ) → d ≤ i → Vanishes d n f → flat_map f (tuples_up_to i (n + k)) ≡ flat_map f (tuples_up_to d n)
unfolding tuples_up_to
wider f zero n zero k l h = refl
wider f zero n (suc i) k l h = unfolded f i (n + k) ∙ ap (λ z. f [] ++ z) (flat_none _ (below (n + k)) (λ v. flat_none _ (tuples_up_to i (n + k)) (λ u. h (v ∷ u) refl)))
wider f (suc d) n zero k l h = absurd (omega arith)
wider f (suc d) n (suc i) k l h =
    unfolded f i (n + k)
    ∙ ap (λ z. f [] ++ z) (fewer (λ v. flat_map (λ u. f (v ∷ u)) (tuples_up_to i (n + k))) n k (λ v m. flat_none (λ u. f (v ∷ u)) (tuples_up_to i (n + k)) (λ u. h (v ∷ u) (ap (λ b. b && within d n u) (le-ltb v n m))))
    ∙ ap (λ z. flat_map z (below n)) (fun_ext (λ v. wider (λ u. f (v ∷ u)) d n i k (omega arith) (λ u e. h (v ∷ u) (go (nat_lt v n) (within d n u) e)))))
    ∙ sym (unfolded f d n)
  where
    go : (a b : Bool) → b ≡ false → (a && b) ≡ false
    go true b e = e
    go false b e = refl
