-- Where a sum with a cost more has tapes, the sum and the cost have.
use Rattle.std.proofs.Common.{◌≡◌, ℕ, ◌<◌, ◌&&◌, ◌==◌, Bool, true, false, List, [], ◌∷◌, refl, subst, arith, mul-pos, eqb-true}
use Rattle.std.specs.Bool.{beq}
use Rattle.std.proofs.lemmas.Bool.{and_parts}
use Rattle.cv_pool.specs.declared.names.names.NameId.{NameId}
use Rattle.cv_meaning.specs.Interpretation.{Interpretation}
use Rattle.cv_meaning_chances.specs.Fractions.{HasTapes, plus}
use Rattle.cv_bound.specs.declared.cost.Collision.{Collision}
use Rattle.cv_bound.specs.declared.cost.Cost.{Cost}
use Rattle.cv_bound.specs.declared.terms.Term.{Term}
use Rattle.cv_bound.specs.declared.terms.Term.TheVariants as term
use Rattle.cv_bound.specs.Sums.{added, are_alike, merged, same_factors, terms_of, with_term, with_terms}
use Rattle.cv_steps.specs.values.Values.{Advantages, collision_value, cost_value, over_value, sum_value, term_value}
use Rattle.cv_steps.proofs.values.Adding.{collision_has_tapes, sum_value_append, factor_positive}
use Rattle.cv_sequences.proofs.secrets.Alike.{left_positive}

size_positive : (i : Interpretation) (half : Bool) (T : NameId) → 0 < over_value i half T → 0 < i.type_size T.0
size_positive i true T h = omega arith
size_positive i false T h = h

-- collisions that are alike have tapes alike
over_same : (i : Interpretation) (c d : Collision) → are_alike d c ≡ true → HasTapes (collision_value i d) → HasTapes (collision_value i c)
over_same i c d e h =
    collision_has_tapes i c
    (subst (λ (n : ℕ). 0 < i.type_size n) (eqb-true d.over.0 c.over.0 (and_parts (d.over.0 == c.over.0) (beq d.half c.half && same_factors d.factors c.factors) e).0)
    (size_positive i d.half d.over h))

module _ (i : Interpretation) (a : Advantages) where
  abbrev Had : List Term → List Term → Term → Type 0
  Had new old t = HasTapes (sum_value i a new) → HasTapes (plus (sum_value i a old) (term_value i a t))

  -- behind a term that is kept
  below : (t u : Term) (new old : List Term) → Had new old u → Had (t ∷ new) (t ∷ old) u
  below t u new old next h =
      let l = left_positive (term_value i a t).all (sum_value i a new).all h in
      let r = next (factor_positive (term_value i a t).all (sum_value i a new).all h) in
      let k = mul-pos l r in
      omega arith

  head_had : (c d : Collision) (ts : List Term) (b : Bool) → are_alike d c ≡ b → Had (merged ts c) ts (term.Collision c) → Had (merged (term.Collision d ∷ ts) c) (term.Collision d ∷ ts) (term.Collision c)
  unfolding merged
  head_had c d ts true e next =
      rw e (λ h. mul-pos h (over_same i c d e (left_positive (collision_value i d).all (sum_value i a ts).all h)))
  head_had c d ts false e next = rw e (below (term.Collision d) (term.Collision c) (merged ts c) ts next)

  merged_had : (ts : List Term) (c : Collision) → Had (merged ts c) ts (term.Collision c)
  unfolding merged
  merged_had [] c h = omega arith
  merged_had (term.Collision d ∷ ts) c h = head_had c d ts (are_alike d c) refl (merged_had ts c) h
  merged_had (t ∷ ts) c h = below t (term.Collision c) (merged ts c) ts (merged_had ts c) h

  term_had : (ts : List Term) (t : Term) → Had (with_term ts t) ts t
  term_had ts (term.Collision c) h = merged_had ts c h
  term_had ts t h = let k = subst HasTapes (sum_value_append i a ts (t ∷ [])) h in omega arith

  terms_had : (ts us : List Term) → HasTapes (sum_value i a (with_terms ts us)) → HasTapes (plus (sum_value i a ts) (sum_value i a us))
  unfolding with_terms
  terms_had ts [] h = omega arith
  terms_had ts (u ∷ us) h =
      let whole = terms_had (with_term ts u) us h in
      let front = term_had ts u (left_positive (sum_value i a (with_term ts u)).all (sum_value i a us).all whole) in
      let k = mul-pos front (factor_positive (sum_value i a (with_term ts u)).all (sum_value i a us).all whole) in
      omega arith

  pub tapes_were_had : (ts : List Term) (c : Cost) (secrecy : Bool) → HasTapes (sum_value i a (added ts c secrecy)) → HasTapes (plus (sum_value i a ts) (cost_value i a c secrecy))
  tapes_were_had ts c secrecy h = terms_had ts (terms_of c secrecy) h
