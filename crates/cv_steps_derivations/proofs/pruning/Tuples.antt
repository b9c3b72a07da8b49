-- The tuples that a `find` tries: those that are too long or too large for its branches offer nothing.
use Rattle.std.proofs.Common.{◌≡◌, ℕ, zero, suc, ◌≤◌, ◌&&◌, Bool, true, false, List, [], ◌∷◌, ◌++◌, map, flat_map, refl, sym, ap, ap₂, ◌∙◌, arith, nat_lt, ltb, ltb-true, ltb-false, le-ltb}
use Rattle.std.proofs.Math.Path.{fun_ext}
use Rattle.std.proofs.lemmas.Grind.{flat_map-append}
use Rattle.std.proofs.lemmas.List.{append-nil}
use Rattle.cv_meaning.specs.Candidates.{below, tuples_up_to}
use Rattle.cv_syntax_trees.proofs.lists.Places.{flat_flat, flat_maps}

-- at most so many numbers, each below a bound
abbrev pub is_within : ℕ → ℕ → List ℕ → Bool
is_within d n [] = true
is_within zero n (v ∷ u) = false
is_within (suc d) n (v ∷ u) = nat_lt v n && is_within d n u

pub flat_none : {A B : Type 0} (f : A → List B) → ((x : A) → f x ≡ []) → (xs : List A) → flat_map f xs ≡ []
flat_none f e [] = refl
flat_none f e (x ∷ xs) = ap₂ ◌++◌ (e x) (flat_none f e xs)

false_behind : (b c : Bool) → c ≡ false → b && c ≡ false
false_behind true c e = e
false_behind false c e = refl

module _ {A : Type 0} where
  -- numbers at and above a bound offer nothing
  below_bound : (f : ℕ → List A) (n w : ℕ) → n ≤ w → ((v : ℕ) → n ≤ v → f v ≡ []) → flat_map f (below w) ≡ flat_map f (below n)
  below_bound f n zero l e = let i : zero ≡ n = omega arith in ap (λ k. flat_map f (below k)) i
  below_bound f n (suc w) l e = go (ltb w n) refl (λ k. below_bound f n w k e)
    where
      go : (b : Bool) → ltb w n ≡ b → (n ≤ w → flat_map f (below w) ≡ flat_map f (below n)) → flat_map f (below (suc w)) ≡ flat_map f (below n)
      go true k ih = let j = ltb-true w n k in let i : suc w ≡ n = omega arith in ap (λ m. flat_map f (below m)) i
      go false k ih =
          let j : n ≤ w = ltb-false w n k in
          flat_map-append f (below w) (w ∷ []) ∙ (ap₂ (λ xs ys. xs ++ (ys ++ [])) (ih j) (e w j) ∙ append-nil (flat_map f (below n)))

  -- the tuples that begin with a number
  beginning : (f : List ℕ → List A) (d n w : ℕ) → flat_map f (flat_map (λ v. map (λ u. v ∷ u) (tuples_up_to d n)) (below w)) ≡ flat_map (λ v. flat_map (λ u. f (v ∷ u)) (tuples_up_to d n)) (below w)
  beginning f d n w =
      flat_flat f (λ v. map (λ u. v ∷ u) (tuples_up_to d n)) (below w)
      ∙ ap (λ h. flat_map h (below w)) (fun_ext (λ v. flat_maps f (λ u. v ∷ u) (tuples_up_to d n)))

  pub tuples_within : (d e n w : ℕ) (f : List ℕ → List A) → d ≤ e → n ≤ w → ((u : List ℕ) → is_within d n u ≡ false → f u ≡ []) → flat_map f (tuples_up_to e w) ≡ flat_map f (tuples_up_to d n)
  unfolding tuples_up_to
  tuples_within zero zero n w f l m h = refl
  tuples_within zero (suc e) n w f l m h =
      ap (λ ys. f [] ++ ys) (beginning f e w w ∙ flat_none (λ v. flat_map (λ u. f (v ∷ u)) (tuples_up_to e w)) (λ v. flat_none (λ u. f (v ∷ u)) (λ u. h (v ∷ u) refl) (tuples_up_to e w)) (below w))
  tuples_within (suc d) zero n w f l m h = absurd (omega arith)
  tuples_within (suc d) (suc e) n w f l m h =
      let less : d ≤ e = omega arith in
      let wide : ℕ → List A = λ v. flat_map (λ u. f (v ∷ u)) (tuples_up_to e w) in
      let outside : (v : ℕ) → n ≤ v → wide v ≡ [] = λ v k. flat_none (λ u. f (v ∷ u)) (λ u. h (v ∷ u) (ap (λ b. b && is_within d n u) (le-ltb v n k))) (tuples_up_to e w) in
      let inside : (v : ℕ) → wide v ≡ flat_map (λ u. f (v ∷ u)) (tuples_up_to d n) = λ v. tuples_within d e n w (λ u. f (v ∷ u)) less m (λ u k. h (v ∷ u) (false_behind (nat_lt v n) (is_within d n u) k)) in
      ap (λ ys. f [] ++ ys) (beginning f e w w ∙ (below_bound wide n w m outside ∙ (ap (λ h. flat_map h (below n)) (fun_ext inside) ∙ sym (beginning f d n n))))
