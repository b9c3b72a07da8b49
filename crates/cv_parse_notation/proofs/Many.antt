-- Reading many: how many tokens there are bounds the turns, so one turn can be taken off.
use Rattle.std.proofs.Common.{◌≡◌, ℕ, zero, suc, ◌<◌, ◌≤◌, Bool, true, false, List, [], ◌∷◌, length, refl, ap, sym, ◌∙◌, arith, Ok, Err}
use Rattle.cv_parse_notation.specs.declared.sign.Sign.{Sign}
use Rattle.cv_parse_notation.specs.Spells.{Kind, next_is}
use Rattle.cv_parse_notation.specs.Reads.{Fault, Found, Read, Reader, ◌>>=◌, found, pick, nothing, one_more, read_many}

-- readers of many, each of which takes a token
module _ {R A : Type 0} (k : Kind → Bool) (p : Reader R A) (takes : (ts : List Sign) (x : Found R A) → p ts ≡ Ok x → length x.rest < length ts) where
  none_many : (n : ℕ) (ts : List Sign) → length ts ≤ 0 → read_many k p n ts ≡ found [] [] ts
  none_many zero ts h = refl
  none_many (suc n) [] h = refl
  none_many (suc n) (t ∷ ts) h = absurd (omega arith)

  next_many : ℕ → Read R A → Read R (List A)
  next_many n r = r >>= λ x. read_many k p n x.rest >>= one_more x

  same_pick : (b : Bool) (n m : ℕ) (ts : List Sign) → (let r = p ts in next_many n r ≡ next_many m r) → pick b (λ us. p us >>= λ x. read_many k p n x.rest >>= one_more x) (nothing []) ts ≡ pick b (λ us. p us >>= λ x. read_many k p m x.rest >>= one_more x) (nothing []) ts
  unfolding next_many
  same_pick true n m ts h = h
  same_pick false n m ts h = refl

  enough : (n m : ℕ) (ts : List Sign) → length ts ≤ n → length ts ≤ m → read_many k p n ts ≡ read_many k p m ts
  unfolding next_many
  enough zero m ts h i = sym (none_many m ts h)
  enough (suc n) zero ts h i = none_many (suc n) ts i
  enough (suc n) (suc m) ts h i = same_pick (next_is k ts) n m ts (same (p ts) refl (λ us a b. enough n m us a b))
    where
      same : (r : Read R A) → p ts ≡ r → ((us : List Sign) → length us ≤ n → length us ≤ m → read_many k p n us ≡ read_many k p m us) → next_many n r ≡ next_many m r
      same (Err e) j f = refl
      same (Ok x) j f = let less = takes ts x j in ap (λ (z : Read R (List A)). z >>= one_more x) (f x.rest (omega arith) (omega arith))

  -- no more begins
  pub many_ends : (ts : List Sign) → next_is k ts ≡ false → read_many k p (length ts) ts ≡ found [] [] ts
  many_ends [] h = refl
  many_ends (t ∷ ts) h = ap (λ b. pick b (λ us. p us >>= λ x. read_many k p (length ts) x.rest >>= one_more x) (nothing []) (t ∷ ts)) h

  -- one more, and then the others
  pub many_more : (ts : List Sign) (x : Found R A) → next_is k ts ≡ true → p ts ≡ Ok x → read_many k p (length ts) ts ≡ (read_many k p (length x.rest) x.rest >>= one_more x)
  many_more [] x h e = absurd (cc)
  many_more (t ∷ ts) x h e =
      let less = takes (t ∷ ts) x e in
      ap (λ b. pick b (λ us. p us >>= λ x. read_many k p (length ts) x.rest >>= one_more x) (nothing []) (t ∷ ts)) h
      ∙ (ap (λ (r : Read R A). r >>= λ x. read_many k p (length ts) x.rest >>= one_more x) e ∙ ap (λ (z : Read R (List A)). z >>= one_more x) (enough (length ts) (length x.rest) x.rest (omega arith) (omega arith)))

  -- the next one fails
  pub many_fails : (ts : List Sign) (f : Fault) → next_is k ts ≡ true → p ts ≡ Err f → read_many k p (length ts) ts ≡ Err f
  many_fails [] f h e = absurd (cc)
  many_fails (t ∷ ts) f h e =
      ap (λ b. pick b (λ us. p us >>= λ x. read_many k p (length ts) x.rest >>= one_more x) (nothing []) (t ∷ ts)) h ∙ ap (λ (r : Read R A). r >>= λ x. read_many k p (length ts) x.rest >>= one_more x) e
