-- Adding a cost to a sum adds its value.
use Rattle.std.proofs.Common.{◌≡◌, ℕ, zero, suc, ◌+◌, ◌*◌, ◌<◌, Bool, true, false, ◌&&◌, List, [], ◌∷◌, ◌++◌, refl, ap, ap₂, sym, ◌∙◌, arith, subst}
use Rattle.std.specs.Prelude.{◌==◌}
use Rattle.std.specs.List.{AllByRecursion}
use Rattle.std.specs.Bool.{beq}
use Rattle.std.proofs.lemmas.Bool.{and_parts, eqb-true}
use Rattle.cv_pool.specs.declared.names.names.NameId.{NameId}
use Rattle.cv_meaning.specs.Chances.{Chance, AtMost, Same, zero_chance}
use Rattle.cv_meaning.specs.Interpretation.{Interpretation}
use Rattle.cv_meaning_chances.specs.Fractions.{HasTapes, plus, scaled, times}
use Rattle.std.proofs.Math.Nat.{mul-pos}
use Rattle.cv_meaning_chances.proofs.FractionLaws.{at_most_trans}
use Rattle.cv_bound.specs.declared.cost.Collision.{Collision}
use Rattle.cv_bound.specs.declared.cost.Cost.{Cost}
use Rattle.cv_bound.specs.declared.cost.Cost.TheVariants as cost
use Rattle.cv_bound.specs.declared.terms.Term.{Term}
use Rattle.cv_bound.specs.declared.terms.Term.TheVariants as term
use Rattle.cv_bound.specs.Sums.{same_factors, are_alike, merged, with_term, with_terms, terms_of, added}
use Rattle.cv_steps.specs.values.Values.{product_value, over_value, collision_value, Advantages, term_value, sum_value, cost_value}

fraction : (a b c d : ℕ) → a ≡ c → b ≡ d → (let p : Chance = record { good = a; all = b } in p) ≡ record { good = c; all = d }
fraction a b c d e f = ap₂ (λ (x y : ℕ). let p : Chance = record { good = x; all = y } in p) e f

plus_assoc : (p q r : Chance) → plus (plus p q) r ≡ plus p (plus q r)
plus_assoc p q r = fraction _ _ _ _ (omega arith) (omega arith)

zero_plus : (p : Chance) → plus zero_chance p ≡ p
zero_plus p = fraction _ _ _ _ (omega arith) (omega arith)

plus_zero : (p : Chance) → plus p zero_chance ≡ p
plus_zero p = fraction _ _ _ _ (omega arith) (omega arith)

-- the first fraction is the second, with so many times its numbers
abbrev IsWider : Chance → Chance → Type 0
IsWider p q = (k : ℕ) × (p ≡ scaled k q)

wider_refl : (p q : Chance) → p ≡ q → IsWider p q
wider_refl p q e = (1, e ∙ fraction _ _ _ _ (omega arith) (omega arith))

wider_trans : (p q r : Chance) → IsWider p q → IsWider q r → IsWider p r
wider_trans p q r h k = (h.0 * k.0, h.1 ∙ (ap (scaled h.0) k.1 ∙ fraction _ _ _ _ (omega arith) (omega arith)))

wider_left : (p q r : Chance) → IsWider p q → IsWider (plus p r) (plus q r)
wider_left p q r h = (h.0, ap (λ x. plus x r) h.1 ∙ fraction _ _ _ _ (omega arith) (omega arith))

wider_right : (p q r : Chance) → IsWider q r → IsWider (plus p q) (plus p r)
wider_right p q r h = (h.0, ap (plus p) h.1 ∙ fraction _ _ _ _ (omega arith) (omega arith))

pub sum_value_append : (i : Interpretation) (a : Advantages) (ts us : List Term) → sum_value i a (ts ++ us) ≡ plus (sum_value i a ts) (sum_value i a us)
sum_value_append i a [] us = sym (zero_plus (sum_value i a us))
sum_value_append i a (t ∷ ts) us = ap (plus (term_value i a t)) (sum_value_append i a ts us) ∙ sym (plus_assoc (term_value i a t) (sum_value i a ts) (sum_value i a us))

same_factor : (f g : NameId × ℕ) → f.0.0 ≡ g.0.0 → f.1 ≡ g.1 → f ≡ g
same_factor f g e h = ap₂ (λ (n k : ℕ). let x : NameId = record { 0 = n } in (x, k)) e h

same_lists : (fs gs : List (NameId × ℕ)) → same_factors fs gs ≡ true → fs ≡ gs
same_lists [] [] h = refl
same_lists [] (g ∷ gs) h = absurd (cc)
same_lists (f ∷ fs) [] h = absurd (cc)
same_lists (f ∷ fs) (g ∷ gs) h =
    let p = and_parts (f.0.0 == g.0.0) ((f.1 == g.1) && same_factors fs gs) h in
    let q = and_parts (f.1 == g.1) (same_factors fs gs) p.1 in
    ap₂ (λ (x : NameId × ℕ) xs. x ∷ xs) (same_factor f g (eqb-true f.0.0 g.0.0 p.0) (eqb-true f.1 g.1 q.0)) (same_lists fs gs q.1)

same_half : (b c : Bool) → beq b c ≡ true → b ≡ c
same_half true true h = refl
same_half true false h = absurd (cc)
same_half false true h = absurd (cc)
same_half false false h = refl

same_name : (x y : NameId) → x.0 ≡ y.0 → x ≡ y
same_name x y e = ap (λ (n : ℕ). let z : NameId = record { 0 = n } in z) e

-- collisions that are alike have the same product over the same size
alike_values : (i : Interpretation) (c d : Collision) → are_alike c d ≡ true → (product_value i c.factors ≡ product_value i d.factors) × (over_value i c.half c.over ≡ over_value i d.half d.over)
alike_values i c d h =
    let p = and_parts (c.over.0 == d.over.0) (beq c.half d.half && same_factors c.factors d.factors) h in
    let q = and_parts (beq c.half d.half) (same_factors c.factors d.factors) p.1 in
    (ap (product_value i) (same_lists c.factors d.factors q.1), ap₂ (over_value i) (same_half c.half d.half q.0) (same_name c.over d.over (eqb-true c.over.0 d.over.0 p.0)))

times_together : (m n P S : ℕ) (r : Chance) → IsWider (plus (plus (record { good = m * P; all = S }) r) (record { good = n * P; all = S })) (plus (record { good = (m + n) * P; all = S }) r)
times_together m n P S r = (S, fraction _ _ _ _ (omega arith) (omega arith))

-- m times and n times a product over a size are m + n times that product over that size
added_times : (m n P S P' S' : ℕ) (r : Chance) → P ≡ P' → S ≡ S' → IsWider (plus (plus (record { good = m * P; all = S }) r) (record { good = n * P'; all = S' })) (plus (record { good = (m + n) * P; all = S }) r)
added_times m n P S P' S' r e f =
    let first : Chance = record { good = m * P; all = S } in
    let both : Chance = record { good = (m + n) * P; all = S } in
    subst (λ (s : ℕ). IsWider (plus (plus first r) (record { good = n * P'; all = s })) (plus both r)) f
    (subst (λ (x : ℕ). IsWider (plus (plus first r) (record { good = n * x; all = S })) (plus both r)) e (times_together m n P S r))

head_adds : (i : Interpretation) (a : Advantages) (c d : Collision) (ts : List Term) (b : Bool) → are_alike d c ≡ b → IsWider (plus (sum_value i a ts) (collision_value i c)) (sum_value i a (merged ts c)) → IsWider (plus (sum_value i a (term.Collision d ∷ ts)) (collision_value i c)) (sum_value i a (merged (term.Collision d ∷ ts) c))
unfolding merged
head_adds i a c d ts true e next = rw e (let v = alike_values i d c e in added_times d.times c.times _ _ _ _ (sum_value i a ts) v.0 v.1)
head_adds i a c d ts false e next = rw e (wider_trans _ _ _ (wider_refl _ _ (plus_assoc (collision_value i d) (sum_value i a ts) (collision_value i c))) (wider_right (collision_value i d) _ _ next))

merged_adds : (i : Interpretation) (a : Advantages) (ts : List Term) (c : Collision) → IsWider (plus (sum_value i a ts) (collision_value i c)) (sum_value i a (merged ts c))
unfolding merged
merged_adds i a [] c = wider_refl _ _ (zero_plus (collision_value i c) ∙ sym (plus_zero (collision_value i c)))
merged_adds i a (term.Collision d ∷ ts) c = head_adds i a c d ts (are_alike d c) refl (merged_adds i a ts c)
merged_adds i a (t ∷ ts) c = wider_trans _ _ _ (wider_refl _ _ (plus_assoc (term_value i a t) (sum_value i a ts) (collision_value i c))) (wider_right (term_value i a t) _ _ (merged_adds i a ts c))

term_adds : (i : Interpretation) (a : Advantages) (ts : List Term) (t : Term) → IsWider (plus (sum_value i a ts) (term_value i a t)) (sum_value i a (with_term ts t))
term_adds i a ts (term.Collision c) = merged_adds i a ts c
term_adds i a ts t = wider_refl _ _ (ap (plus (sum_value i a ts)) (sym (plus_zero (term_value i a t))) ∙ sym (sum_value_append i a ts (t ∷ [])))

terms_add : (i : Interpretation) (a : Advantages) (ts us : List Term) → IsWider (plus (sum_value i a ts) (sum_value i a us)) (sum_value i a (with_terms ts us))
unfolding with_terms
terms_add i a ts [] = wider_refl _ _ (plus_zero (sum_value i a ts))
terms_add i a ts (u ∷ us) =
    wider_trans _ _ _ (wider_refl _ _ (sym (plus_assoc (sum_value i a ts) (term_value i a u) (sum_value i a us))))
    (wider_trans _ _ _ (wider_left _ _ (sum_value i a us) (term_adds i a ts u)) (terms_add i a (with_term ts u) us))

same_as_wider : (p q : Chance) → IsWider p q → Same q p
same_as_wider p q h = subst (Same q) (sym h.1) (omega arith)

pub factor_positive : (k n : ℕ) → 0 < k * n → 0 < n
factor_positive k zero h = absurd (omega arith)
factor_positive k (suc n) h = omega arith

wider_has_tapes : (p q : Chance) → IsWider p q → HasTapes p → HasTapes q
wider_has_tapes p q h t = factor_positive h.0 q.all (subst HasTapes h.1 t)

pub value_is_added : (i : Interpretation) (a : Advantages) (ts : List Term) (c : Cost) (secrecy : Bool) → Same (sum_value i a (added ts c secrecy)) (plus (sum_value i a ts) (cost_value i a c secrecy))
value_is_added i a ts c secrecy = same_as_wider _ _ (terms_add i a ts (terms_of c secrecy))

pub tapes_are_kept : (i : Interpretation) (a : Advantages) (ts : List Term) (c : Cost) (secrecy : Bool) → HasTapes (plus (sum_value i a ts) (cost_value i a c secrecy)) → HasTapes (sum_value i a (added ts c secrecy))
tapes_are_kept i a ts c secrecy h = wider_has_tapes _ _ (terms_add i a ts (terms_of c secrecy)) h

pub bounds_are_kept : (i : Interpretation) (a : Advantages) (ts : List Term) (c : Cost) (secrecy : Bool) (p : Chance) → HasTapes (plus (sum_value i a ts) (cost_value i a c secrecy)) → AtMost p (plus (sum_value i a ts) (cost_value i a c secrecy)) → AtMost p (sum_value i a (added ts c secrecy))
bounds_are_kept i a ts c secrecy p h b =
    let same = value_is_added i a ts c secrecy in
    at_most_trans p (plus (sum_value i a ts) (cost_value i a c secrecy)) (sum_value i a (added ts c secrecy)) h b (omega arith)

pub terms_have_tapes : (i : Interpretation) (a : Advantages) (ts : List Term) → AllByRecursion (λ t. HasTapes (term_value i a t)) ts → HasTapes (sum_value i a ts)
terms_have_tapes i a [] h = omega arith
terms_have_tapes i a (t ∷ ts) h = mul-pos h.0 (terms_have_tapes i a ts h.1)

-- a fraction that counts twice beside others that do
twice_more : (g A u v x y : ℕ) → u * y ≡ 2 * x * v → (g * (A * v) + (g * v + u * A) * A) * (A * y) ≡ 2 * (g * y + x * A) * (A * (A * v))
twice_more g A u v x y h = let k = ap (λ z. z * (A * A * A)) h in omega arith

pub collisions_twice : (i : Interpretation) (a : Advantages) (cs : List Collision) → Same (cost_value i a (cost.Collisions cs) true) (times 2 (cost_value i a (cost.Collisions cs) false))
collisions_twice i a [] = refl
collisions_twice i a (c ∷ cs) = twice_more (c.times * product_value i c.factors) (over_value i c.half c.over) (cost_value i a (cost.Collisions cs) true).good (cost_value i a (cost.Collisions cs) true).all (cost_value i a (cost.Collisions cs) false).good (cost_value i a (cost.Collisions cs) false).all (collisions_twice i a cs)

pub one_coefficient : (i : Interpretation) (c : Collision) (m n : ℕ) → Same (collision_value i (record c { times = m + n })) (plus (collision_value i (record c { times = m })) (collision_value i (record c { times = n })))
one_coefficient i c m n = omega arith

over_positive : (i : Interpretation) (b : Bool) (T : NameId) → 0 < i.type_size T.0 → 0 < over_value i b T
over_positive i true T h = omega arith
over_positive i false T h = h

pub collision_has_tapes : (i : Interpretation) (c : Collision) → 0 < i.type_size c.over.0 → HasTapes (collision_value i c)
collision_has_tapes i c h = over_positive i c.half c.over h
