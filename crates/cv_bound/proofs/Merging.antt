-- How terms are merged into a list, place by place.
use Rattle.std.proofs.Common.{◌≡◌, ◌≢◌, ℕ, zero, suc, ◌+◌, ◌^◌, ◌<◌, ◌≤◌, Bool, true, false, ◌&&◌, List, [], ◌∷◌, ◌++◌, length, drop, get_or, set, refl, ap, sym, ◌∙◌, arith, reverse, subst, Some, None}
use Rattle.std.specs.Prelude.{◌==◌, position}
use Rattle.std.specs.List.{position_or_len}
use Rattle.std.proofs.lemmas.Bool.Decides.{nat_tests}
use Rattle.std.proofs.lemmas.List.{reverse-append}
use Rattle.cv_pool.specs.declared.names.names.NameId.{NameId}
use Rattle.cv_bound.specs.declared.cost.Collision.{Collision}
use Rattle.cv_bound.specs.declared.terms.Experiment.{Experiment}
use Rattle.cv_bound.specs.declared.terms.Term.{Term}
use Rattle.cv_bound.specs.declared.terms.Term.TheVariants as term
use Rattle.cv_bound.specs.Places.{is_like, grown, terms_grown}
use Rattle.cv_bound.specs.Sums.{same_factors, are_alike, merged, with_term, with_terms, Fits, AllFit}

ends_false : (a b : Bool) → (a && (b && false)) ≡ false
ends_false true true = refl
ends_false true false = refl
ends_false false b = refl

pub same_lengths : (fs gs : List (NameId × ℕ)) → length fs ≢ length gs → same_factors fs gs ≡ false
same_lengths [] [] n = absurd (n refl)
same_lengths [] (g ∷ gs) n = refl
same_lengths (f ∷ fs) [] n = refl
same_lengths (f ∷ fs) (g ∷ gs) n = rw (same_lengths fs gs (λ e. n (ap suc e))) (ends_false (f.0.0 == g.0.0) (f.1 == g.1))

-- factors that agree so far
pub same_next : (fs gs : List (NameId × ℕ)) (k : ℕ) (d e : NameId × ℕ) → k < length fs → k < length gs → same_factors (drop k fs) (drop k gs) ≡ (((get_or fs k d).0.0 == (get_or gs k e).0.0) && (((get_or fs k d).1 == (get_or gs k e).1) && same_factors (drop (suc k) fs) (drop (suc k) gs)))
same_next [] gs k d e m n = absurd (omega arith)
same_next (f ∷ fs) [] k d e m n = absurd (omega arith)
same_next (f ∷ fs) (g ∷ gs) zero d e m n = refl
same_next (f ∷ fs) (g ∷ gs) (suc k) d e m n = same_next fs gs k d e (omega arith) (omega arith)

pub ruleset same_laws = (same_lengths, same_next)

pub grown_at : (ts : List Term) (k n : ℕ) (d : Term) → k < length ts → set ts k (grown n (get_or ts k d)) ≡ terms_grown ts k n
grown_at [] k n d l = absurd (omega arith)
grown_at (t ∷ ts) zero n d l = refl
grown_at (t ∷ ts) (suc k) n d l = ap (λ us. t ∷ us) (grown_at ts k n d (omega arith))

-- the coefficient that grows has room
pub coefficient_fits : (ts : List Term) (k n : ℕ) (d : Term) (c : Collision) → k < length ts → get_or ts k d ≡ term.Collision c → AllFit (terms_grown ts k n) → c.times + n < 2 ^ 64
coefficient_fits [] k n d c l e h = absurd (omega arith)
coefficient_fits (t ∷ ts) zero n d c l e h = subst (λ u. Fits (grown n u)) e h.0
coefficient_fits (t ∷ ts) (suc k) n d c l e h = coefficient_fits ts k n d c (omega arith) e h.1

pub position_None : {X : Type 0} (p : X → Bool) (xs : List X) → position p xs ≡ None → length xs ≤ position_or_len p xs
position_None p xs e = grind (arith, nat_tests)

pub position_Some : {X : Type 0} (p : X → Bool) (xs : List X) (k : ℕ) → position p xs ≡ Some k → (position_or_len p xs ≡ k) × (k < length xs)
position_Some p xs k e = grind (arith, nat_tests)

head_found : (c d : Collision) (ts : List Term) (b : Bool) → are_alike d c ≡ b → ((k : ℕ) → position_or_len (is_like c) ts ≡ k → k < length ts → merged ts c ≡ terms_grown ts k c.times) → (k : ℕ) → position_or_len (is_like c) (term.Collision d ∷ ts) ≡ k → k < suc (length ts) → merged (term.Collision d ∷ ts) c ≡ terms_grown (term.Collision d ∷ ts) k c.times
unfolding merged
head_found c d ts true h next zero e l = rw h refl
head_found c d ts true h next (suc k) e l = absurd (let f = rw h at e in cc)
head_found c d ts false h next zero e l = absurd (let f = rw h at e in omega arith)
head_found c d ts false h next (suc k) e l = rw h (ap (λ us. term.Collision d ∷ us) (next k (let f = rw h at e in omega arith) (omega arith)))

-- a collision is merged at the first place that is like it
pub merged_found : (c : Collision) (ts : List Term) (k : ℕ) → position_or_len (is_like c) ts ≡ k → k < length ts → merged ts c ≡ terms_grown ts k c.times
unfolding merged
merged_found c [] k e l = absurd (omega arith)
merged_found c (term.Collision d ∷ ts) k e l = head_found c d ts (are_alike d c) refl (merged_found c ts) k e l
merged_found c (t ∷ ts) zero e l = absurd (omega arith)
merged_found c (t ∷ ts) (suc k) e l = ap (λ us. t ∷ us) (merged_found c ts k (omega arith) (omega arith))

head_absent : (c d : Collision) (ts : List Term) (b : Bool) → are_alike d c ≡ b → (length ts ≤ position_or_len (is_like c) ts → merged ts c ≡ ts ++ term.Collision c ∷ []) → suc (length ts) ≤ position_or_len (is_like c) (term.Collision d ∷ ts) → merged (term.Collision d ∷ ts) c ≡ term.Collision d ∷ (ts ++ term.Collision c ∷ [])
unfolding merged
head_absent c d ts true h next l = absurd (let f = rw h at l in omega arith)
head_absent c d ts false h next l = rw h (ap (λ us. term.Collision d ∷ us) (next (let f = rw h at l in omega arith)))

-- where no term is like it, it stands at the end
pub merged_absent : (c : Collision) (ts : List Term) → length ts ≤ position_or_len (is_like c) ts → merged ts c ≡ ts ++ term.Collision c ∷ []
unfolding merged
merged_absent c [] l = refl
merged_absent c (term.Collision d ∷ ts) l = head_absent c d ts (are_alike d c) refl (merged_absent c ts) l
merged_absent c (t ∷ ts) l = ap (λ us. t ∷ us) (merged_absent c ts (omega arith))

head_fits : (c d : Collision) (ts : List Term) (b : Bool) → are_alike d c ≡ b → (AllFit (merged ts c) → AllFit ts) → AllFit (merged (term.Collision d ∷ ts) c) → AllFit (term.Collision d ∷ ts)
unfolding merged
head_fits c d ts true e next h = let g = rw e at h in (let l : d.times + c.times < 2 ^ 64 = g.0 in omega arith, g.1)
head_fits c d ts false e next h = let g = rw e at h in (g.0, next g.1)

-- what is there fits where it fits with a term more
fits_merged : (ts : List Term) (c : Collision) → AllFit (merged ts c) → AllFit ts
unfolding merged
fits_merged [] c h = tt
fits_merged (term.Collision d ∷ ts) c h = head_fits c d ts (are_alike d c) refl (fits_merged ts c) h
fits_merged (t ∷ ts) c h = (h.0, fits_merged ts c h.1)

fits_append : (ts us : List Term) → AllFit (ts ++ us) → AllFit ts
fits_append [] us h = tt
fits_append (t ∷ ts) us h = (h.0, fits_append ts us h.1)

fits_with : (ts : List Term) (t : Term) → AllFit (with_term ts t) → AllFit ts
fits_with ts (term.Collision c) h = fits_merged ts c h
fits_with ts t h = fits_append ts (t ∷ []) h

pub fits_with_all : (ts us : List Term) → AllFit (with_terms ts us) → AllFit ts
unfolding with_terms
fits_with_all ts [] h = h
fits_with_all ts (u ∷ us) h = fits_with ts u (fits_with_all (with_term ts u) us h)

-- the last of the terms that are left is the next one
pub taken : (ts us vs : List Term) (t : Term) → vs ≡ us ++ t ∷ [] → with_terms ts (reverse vs) ≡ with_terms (with_term ts t) (reverse us)
unfolding with_terms
taken ts us vs t e = ap (λ ws. with_terms ts (reverse ws)) e ∙ ap (with_terms ts) (reverse-append us (t ∷ []))

pub taken_fits : (ts us vs : List Term) (t : Term) → vs ≡ us ++ t ∷ [] → AllFit (with_terms ts (reverse vs)) → AllFit (with_term ts t)
taken_fits ts us vs t e h = fits_with_all (with_term ts t) (reverse us) (subst AllFit (taken ts us vs t e) h)

-- none are left
pub all_taken : (ts vs total : List Term) → length vs ≤ 0 → with_terms ts (reverse vs) ≡ total → ts ≡ total
unfolding with_terms
all_taken ts [] total l e = e
all_taken ts (v ∷ vs) total l e = absurd (omega arith)

pub grown_collision : (ts : List Term) (k n : ℕ) (d : Term) (c : Collision) → k < length ts → get_or ts k d ≡ term.Collision c → set ts k (term.Collision (record c { times = c.times + n })) ≡ terms_grown ts k n
grown_collision ts k n d c l e = ap (λ u. set ts k (grown n u)) (sym e) ∙ grown_at ts k n d l

pub grown_advantage : (ts : List Term) (k n s : ℕ) (t : Term) (q : NameId) (x : Experiment) → k < length ts → t ≡ get_or ts k t → t ≡ term.Advantage s q x → set ts k t ≡ terms_grown ts k n
grown_advantage ts k n s t q x l e f = let same : grown n t ≡ t = ap (grown n) f ∙ sym f in ap (set ts k) (sym same ∙ ap (grown n) e) ∙ grown_at ts k n t l

pub found : (c : Collision) (ts us : List Term) (k : ℕ) → us ≡ ts → position (is_like c) us ≡ Some k → merged ts c ≡ terms_grown ts k c.times
found c ts us k e h = let p = position_Some (is_like c) us k h in subst (λ vs. merged vs c ≡ terms_grown vs k c.times) e (merged_found c us k p.0 p.1)

pub absent : (c : Collision) (ts us : List Term) → us ≡ ts → position (is_like c) us ≡ None → merged ts c ≡ ts ++ term.Collision c ∷ []
absent c ts us e h = subst (λ vs. merged vs c ≡ vs ++ term.Collision c ∷ []) e (merged_absent c us (position_None (is_like c) us h))
