-- The order of the terms of a sum.
use Rattle.std.proofs.Common.{◌≡◌, ℕ, ◌+◌, ◌*◌, Bool, true, false, ◌&&◌, List, [], ◌∷◌, ◌++◌, refl, ap, sym, ◌∙◌, arith, subst, map, length, take, append_assoc, append-nil}
use Rattle.std.specs.Prelude.{◌==◌}
use Rattle.std.specs.List.{AllByRecursion, IsDistinct}
use Rattle.std.specs.Bool.{beq}
use Rattle.std.proofs.lemmas.Bool.{and_from}
use Rattle.std.proofs.lemmas.Bool.Decides.{nat_tests}
use Rattle.std.proofs.lemmas.List.{length-map, map-append}
use Rattle.std.proofs.Math.Seq.{take-append_seam}
use Rattle.cv_pool.specs.declared.names.names.NameId.{NameId}
use Rattle.cv_bound.specs.declared.cost.Collision.{Collision}
use Rattle.cv_bound.specs.declared.cost.Cost.{Cost}
use Rattle.cv_bound.specs.declared.terms.Experiment.{Experiment}
use Rattle.cv_bound.specs.declared.terms.Term.{Term}
use Rattle.cv_bound.specs.declared.terms.Term.TheVariants as term
use Rattle.cv_bound.specs.Sums.{same_factors, are_alike, merged, with_term, with_terms, counted, terms_of, added}
use Rattle.cv_steps.specs.values.Orders.{bare, are_like_terms}
use Rattle.cv_syntax_trees.proofs.lists.Tests.{equals_refl}

-- how the terms of a list begin
abbrev Begins : List Term → List Term → Type 0
Begins ts us = (vs : List Term) × (map bare us ≡ map bare ts ++ vs)

head_begins : (c d : Collision) (ts : List Term) (b : Bool) → are_alike d c ≡ b → Begins ts (merged ts c) → Begins (term.Collision d ∷ ts) (merged (term.Collision d ∷ ts) c)
unfolding merged
head_begins c d ts true e next = rw e ([], ap (λ us. bare (term.Collision d) ∷ us) (sym (append-nil (map bare ts))))
head_begins c d ts false e next = rw e (next.0, ap (λ us. bare (term.Collision d) ∷ us) next.1)

merged_begins : (ts : List Term) (c : Collision) → Begins ts (merged ts c)
unfolding merged
merged_begins [] c = (bare (term.Collision c) ∷ [], refl)
merged_begins (term.Collision d ∷ ts) c = head_begins c d ts (are_alike d c) refl (merged_begins ts c)
merged_begins (t ∷ ts) c = let next = merged_begins ts c in (next.0, ap (λ us. bare t ∷ us) next.1)

with_begins : (ts : List Term) (t : Term) → Begins ts (with_term ts t)
with_begins ts (term.Collision c) = merged_begins ts c
with_begins ts t = (bare t ∷ [], map-append bare ts (t ∷ []))

begins_trans : (ts us vs : List Term) → Begins ts us → Begins us vs → Begins ts vs
begins_trans ts us vs h k = (h.0 ++ k.0, k.1 ∙ (ap (λ ws. ws ++ k.0) h.1 ∙ append_assoc (map bare ts) h.0 k.0))

all_begin : (ts us : List Term) → Begins ts (with_terms ts us)
unfolding with_terms
all_begin ts [] = ([], sym (append-nil (map bare ts)))
all_begin ts (u ∷ us) = begins_trans ts (with_term ts u) (with_terms (with_term ts u) us) (with_begins ts u) (all_begin (with_term ts u) us)

pub places_are_kept : (ts : List Term) (c : Cost) (secrecy : Bool) → take (length ts) (map bare (added ts c secrecy)) ≡ map bare ts
places_are_kept ts c secrecy =
    let h = all_begin ts (terms_of c secrecy) in
    ap (λ n. take n (map bare (added ts c secrecy))) (sym (length-map ts bare)) ∙ (ap (take (length (map bare ts))) h.1 ∙ take-append_seam (map bare ts) h.0)

-- a term is like none of a list
abbrev IsUnlike : Term → List Term → Type 0
IsUnlike t ts = AllByRecursion (λ u. are_like_terms t u ≡ false) ts

-- a coefficient has no part in it
unlike_grown : (d : Collision) (n : ℕ) (ts : List Term) → IsUnlike (term.Collision d) ts → IsUnlike (term.Collision (record d { times = n })) ts
unlike_grown d n [] h = tt
unlike_grown d n (term.Collision c ∷ ts) h = (h.0, unlike_grown d n ts h.1)
unlike_grown d n (t ∷ ts) h = (refl, unlike_grown d n ts h.1)

grown_unlike : (t : Term) (d : Collision) (n : ℕ) → are_like_terms t (term.Collision d) ≡ false → are_like_terms t (term.Collision (record d { times = n })) ≡ false
grown_unlike (term.Collision c) d n h = h
grown_unlike t d n h = refl

head_unlike : (t : Term) (c d : Collision) (ts : List Term) (b : Bool) → are_alike d c ≡ b → are_like_terms t (term.Collision d) ≡ false → IsUnlike t ts → IsUnlike t (merged ts c) → IsUnlike t (merged (term.Collision d ∷ ts) c)
unfolding merged
head_unlike t c d ts true e h old next = rw e (grown_unlike t d (d.times + c.times) h, old)
head_unlike t c d ts false e h old next = rw e (h, next)

merged_unlike : (t : Term) (ts : List Term) (c : Collision) → are_like_terms t (term.Collision c) ≡ false → IsUnlike t ts → IsUnlike t (merged ts c)
unfolding merged
merged_unlike t [] c e h = (e, tt)
merged_unlike t (term.Collision d ∷ ts) c e h = head_unlike t c d ts (are_alike d c) refl h.0 h.1 (merged_unlike t ts c e h.1)
merged_unlike t (u ∷ ts) c e h = (h.0, merged_unlike t ts c e h.1)

head_distinct : (c d : Collision) (ts : List Term) (b : Bool) → are_alike d c ≡ b → IsUnlike (term.Collision d) ts → IsDistinct are_like_terms ts → IsDistinct are_like_terms (merged ts c) → IsDistinct are_like_terms (merged (term.Collision d ∷ ts) c)
unfolding merged IsDistinct
head_distinct c d ts true e h old next = rw e (unlike_grown d (d.times + c.times) ts h, old)
head_distinct c d ts false e h old next = rw e (merged_unlike (term.Collision d) ts c e h, next)

merged_distinct : (ts : List Term) (c : Collision) → IsDistinct are_like_terms ts → IsDistinct are_like_terms (merged ts c)
unfolding merged IsDistinct
merged_distinct [] c h = (tt, tt)
merged_distinct (term.Collision d ∷ ts) c h = head_distinct c d ts (are_alike d c) refl h.0 h.1 (merged_distinct ts c h.1)
merged_distinct (t ∷ ts) c h = (merged_unlike t ts c refl h.0, merged_distinct ts c h.1)

unlike_advantage : (t u : Term) (ts : List Term) → are_like_terms t u ≡ false → IsUnlike t ts → IsUnlike t (ts ++ u ∷ [])
unlike_advantage t u [] e h = (e, tt)
unlike_advantage t u (v ∷ ts) e h = (h.0, unlike_advantage t u ts e h.1)

advantage_distinct : (ts : List Term) (u : Term) → ((t : Term) → are_like_terms t u ≡ false) → IsDistinct are_like_terms ts → IsDistinct are_like_terms (ts ++ u ∷ [])
unfolding IsDistinct
advantage_distinct [] u e h = (tt, tt)
advantage_distinct (t ∷ ts) u e h = (unlike_advantage t u ts (e t) h.0, advantage_distinct ts u e h.1)

like_no_advantage : (t : Term) (s : ℕ) (q : NameId) (x : Experiment) → are_like_terms t (term.Advantage s q x) ≡ false
like_no_advantage (term.Collision c) s q x = refl
like_no_advantage t s q x = refl

with_distinct : (ts : List Term) (t : Term) → IsDistinct are_like_terms ts → IsDistinct are_like_terms (with_term ts t)
with_distinct ts (term.Collision c) h = merged_distinct ts c h
with_distinct ts (term.Advantage s q x) h = advantage_distinct ts (term.Advantage s q x) (λ t. like_no_advantage t s q x) h

all_distinct : (ts us : List Term) → IsDistinct are_like_terms ts → IsDistinct are_like_terms (with_terms ts us)
unfolding with_terms
all_distinct ts [] h = h
all_distinct ts (u ∷ us) h = all_distinct (with_term ts u) us (with_distinct ts u h)

pub like_terms_are_one : (ts : List Term) (c : Cost) (secrecy : Bool) → IsDistinct are_like_terms ts → IsDistinct are_like_terms (added ts c secrecy)
like_terms_are_one ts c secrecy h = all_distinct ts (terms_of c secrecy) h

bit_same : (b : Bool) → beq b b ≡ true
bit_same true = refl
bit_same false = refl

factors_same : (fs : List (NameId × ℕ)) → same_factors fs fs ≡ true
factors_same [] = refl
factors_same (f ∷ fs) = and_from (f.0.0 == f.0.0) ((f.1 == f.1) && same_factors fs fs) (equals_refl f.0.0) (and_from (f.1 == f.1) (same_factors fs fs) (equals_refl f.1) (factors_same fs))

alike_same : (c : Collision) → are_alike c c ≡ true
alike_same c = and_from (c.over.0 == c.over.0) (beq c.half c.half && same_factors c.factors c.factors) (equals_refl c.over.0) (and_from (beq c.half c.half) (same_factors c.factors c.factors) (bit_same c.half) (factors_same c.factors))

-- with another coefficient
abbrev pub with_times : Collision → ℕ → Term
with_times c n = term.Collision (record c { times = n })

head_twice : (c d : Collision) (ts : List Term) (b : Bool) → are_alike d c ≡ b → merged (merged ts c) c ≡ merged ts (record c { times = 2 * c.times }) → merged (merged (term.Collision d ∷ ts) c) c ≡ merged (term.Collision d ∷ ts) (record c { times = 2 * c.times })
unfolding merged
head_twice c d ts true e next = rw e (rw e (ap (λ n. with_times d n ∷ ts) (omega arith)))
head_twice c d ts false e next = rw e (rw e (ap (λ us. term.Collision d ∷ us) next))

merged_twice : (ts : List Term) (c : Collision) → merged (merged ts c) c ≡ merged ts (record c { times = 2 * c.times })
unfolding merged
merged_twice [] c = rw (alike_same c) (ap (λ n. with_times c n ∷ []) (omega arith))
merged_twice (term.Collision d ∷ ts) c = head_twice c d ts (are_alike d c) refl (merged_twice ts c)
merged_twice (t ∷ ts) c = ap (λ us. t ∷ us) (merged_twice ts c)

-- a collision that counts twice counts once with twice its coefficient
pub twice_is_doubled : (ts : List Term) (c : Collision) → with_terms ts (counted true c) ≡ with_terms ts (counted false (record c { times = 2 * c.times }))
unfolding with_terms
twice_is_doubled ts c = merged_twice ts c

unlike_last : (t u : Term) (ts us : List Term) → IsUnlike t (ts ++ u ∷ us) → are_like_terms t u ≡ false
unlike_last t u [] us h = h.0
unlike_last t u (v ∷ ts) us h = unlike_last t u ts us h.1

new_collision : (ts us : List Term) (c : Collision) → IsDistinct are_like_terms (ts ++ term.Collision c ∷ us) → merged ts c ≡ ts ++ term.Collision c ∷ []
unfolding merged IsDistinct
new_collision [] us c h = refl
new_collision (term.Collision d ∷ ts) us c h =
    let e : are_alike d c ≡ false = unlike_last (term.Collision d) (term.Collision c) ts us h.0 in
    rw e (ap (λ vs. term.Collision d ∷ vs) (new_collision ts us c h.1))
new_collision (t ∷ ts) us c h = ap (λ vs. t ∷ vs) (new_collision ts us c h.1)

new_term : (ts us : List Term) (t : Term) → IsDistinct are_like_terms (ts ++ t ∷ us) → with_term ts t ≡ ts ++ t ∷ []
new_term ts us (term.Collision c) h = new_collision ts us c h
new_term ts us t h = refl

new_terms : (ts us : List Term) → IsDistinct are_like_terms (ts ++ us) → with_terms ts us ≡ ts ++ us
unfolding with_terms
new_terms ts [] h = sym (append-nil ts)
new_terms ts (u ∷ us) h =
    let e : with_term ts u ≡ ts ++ u ∷ [] = new_term ts us u h in
    ap (λ vs. with_terms vs us) e ∙ (new_terms (ts ++ u ∷ []) us (subst (IsDistinct are_like_terms) (sym (append_assoc ts (u ∷ []) us)) h) ∙ append_assoc ts (u ∷ []) us)

-- where no two terms of a cost are alike, they are those of its sum
pub unlike_terms_stay : (c : Cost) → IsDistinct are_like_terms (terms_of c false) → added [] c false ≡ terms_of c false
unlike_terms_stay c h = new_terms [] (terms_of c false) h
