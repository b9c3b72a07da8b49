-- A name that is not plain is the key's, a coin's or an answer's.
use Rattle.std.proofs.Common.{◌≡◌, ℕ, zero, suc, ◌<◌, Bool, true, false, ◌&&◌, ◌||◌, not, ◌==◌, [], ◌∷◌, length, refl, sym, subst, ◌∙◌, eqb-true, arith}
use Rattle.std.proofs.lemmas.Bool.{both_ways}
use Rattle.std.proofs.lemmas.List.Folds.{list_any-append}
use Rattle.std.specs.List.{list_any}
use Rattle.cv_meaning.specs.Candidates.{below}
use Rattle.cv_scene.specs.Reductions.{Reduction, is_answer, is_coin, is_plain, sites}

-- one of the numbers below
pub record Below (p : ℕ → Bool) (n : ℕ) : Type 0 where
  pub number : ℕ
  pub less : number < n
  pub holds : p number ≡ true

pub one_below : (p : ℕ → Bool) (n : ℕ) → list_any p (below n) ≡ true → Below p n
one_below p zero e = absurd (both_ways false refl e)
one_below p (suc n) e = go (list_any p (below n)) refl (p n) refl (sym (list_any-append p (below n) (n ∷ [])) ∙ e) (one_below p n)
  where
    go : (b : Bool) → list_any p (below n) ≡ b → (c : Bool) → p n ≡ c → (b || (c || false)) ≡ true → (list_any p (below n) ≡ true → Below p n) → Below p (suc n)
    go true i c j e ih = let q = ih i in let l = q.less in record { number = q.number; less = omega arith; holds = q.holds }
    go false i true j e ih = record { number = n; less = omega arith; holds = j }
    go false i false j e ih = absurd (both_ways false refl e)

module _ (r : Reduction) where
  -- what holds of the key, coins and answers holds of each name that is not plain
  pub not_plain : (P : ℕ → Type 0) → P r.key → ((y : ℕ) → is_coin r y ≡ true → P y) → ((k : ℕ) → k < length (sites r) → P (r.answer k)) → (x : ℕ) → is_plain r x ≡ false → P x
  not_plain P key coins answers x e = go (x == r.key) refl (is_coin r x) refl (is_answer r x) refl e
    where
      go : (a : Bool) → (x == r.key) ≡ a → (b : Bool) → is_coin r x ≡ b → (c : Bool) → is_answer r x ≡ c → (not a && (not b && not c)) ≡ false → P x
      go true i b j c k e = subst P (sym (eqb-true x r.key i)) key
      go false i true j c k e = coins x j
      go false i false j true k e =
          let q = one_below (λ k. r.answer k == x) (length (sites r)) k in
          subst P (eqb-true (r.answer q.number) x q.holds) (answers q.number q.less)
      go false i false j false k e = absurd (both_ways true e refl)
