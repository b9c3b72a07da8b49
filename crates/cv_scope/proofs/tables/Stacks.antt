-- Lists that a table or their order makes quick to search.
use Rattle.std.proofs.Common.{◌≡◌, ℕ, zero, suc, Bool, true, false, ◌⊎◌, inl, inr, List, [], ◌∷◌, ◌++◌, length, take, refl, ap, sym, ◌∙◌, subst, Some, None, nat_eq, eqb-true}
use Rattle.std.specs.Prelude.{slice_get}
use Rattle.std.proofs.lemmas.Bool.{and_parts, and_from, or_cases, or_left, or_right, both_ways, eq-eqb}
use Rattle.cv_syntax_trees.specs.sites.Pairs.{same_pair}
use Rattle.cv_scope.specs.tables.Ordered.{IsPlaced}
use Rattle.cv_scope.specs.declared.tables.places.Places.{Places}
use Rattle.cv_scope.specs.tables.Places.{place_of}
use Rattle.cv_scope.specs.tables.Definitions.{is_defined}

-- pairs

pub pair_same : (d e : ℕ × ℕ) → same_pair d e ≡ true → d ≡ e
pair_same d e h = let p = and_parts (nat_eq d.0 e.0) _ h in λ i. (eqb-true d.0 e.0 p.0 i, eqb-true d.1 e.1 p.1 i)

pub pair_self : (d : ℕ × ℕ) → same_pair d d ≡ true
pair_self d = and_from (nat_eq d.0 d.0) _ (eq-eqb d.0 d.0 refl) (eq-eqb d.1 d.1 refl)

pub same_pair_law : (d e : ℕ × ℕ) → d ≡ e → same_pair d e ≡ true
same_pair_law d e h = subst (λ (x : ℕ × ℕ). same_pair d x ≡ true) h (pair_self d)

-- a list of pairs with their places

defined_at : (ds : List (ℕ × ℕ)) (d : ℕ × ℕ) → is_defined ds d ≡ true → (k : ℕ) × (slice_get ds k ≡ Some d)
defined_at [] d h = absurd (both_ways _ refl h)
defined_at (e ∷ ds) d h = elim (or_cases (same_pair d e) (is_defined ds d) h) [
  | inl m ↦ (zero, ap (λ (x : ℕ × ℕ). Some x) (sym (pair_same d e m)))
  | inr m ↦ let r = defined_at ds d m in (suc r.0, r.1)
]

at_defined : (ds : List (ℕ × ℕ)) (k : ℕ) (d : ℕ × ℕ) → slice_get ds k ≡ Some d → is_defined ds d ≡ true
at_defined [] k d h = absurd (cc)
at_defined (e ∷ ds) zero d h = let s : e ≡ d = cc in or_left (same_pair d e) _ (same_pair_law d e (sym s))
at_defined (e ∷ ds) (suc k) d h = or_right (same_pair d e) _ (at_defined ds k d h)

pub has_some : (ds : List (ℕ × ℕ)) (m : Places) (d : ℕ × ℕ) (k : ℕ) (e : ℕ × ℕ) (b : Bool) → IsPlaced ds m → place_of m d ≡ Some k → slice_get ds k ≡ Some e → b ≡ same_pair e d → b ≡ is_defined ds d
has_some ds m d k e true i g s h = sym (at_defined ds k d (s ∙ ap (λ (x : ℕ × ℕ). Some x) (pair_same e d (sym h))))
has_some ds m d k e false i g s h = go (is_defined ds d) refl
  where
    go : (b : Bool) → is_defined ds d ≡ b → false ≡ b
    go false f = refl
    go true f =
        let r = defined_at ds d f in
        let j : place_of m d ≡ Some r.0 = i r.0 d r.1 in
        let same : r.0 ≡ k = cc in
        let there : slice_get ds k ≡ Some d = subst (λ n. slice_get ds n ≡ Some d) same r.1 in
        let z : e ≡ d = cc in
        absurd (both_ways _ (sym h) (same_pair_law e d z))

not_defined : (ds : List (ℕ × ℕ)) (d : ℕ × ℕ) → (((k : ℕ) × (slice_get ds k ≡ Some d)) → ⊥) → false ≡ is_defined ds d
not_defined ds d n = go (is_defined ds d) refl
  where
    go : (b : Bool) → is_defined ds d ≡ b → false ≡ b
    go false f = refl
    go true f = absurd (n (defined_at ds d f))

pub has_past : (ds : List (ℕ × ℕ)) (m : Places) (d : ℕ × ℕ) (k : ℕ) → IsPlaced ds m → place_of m d ≡ Some k → slice_get ds k ≡ None → false ≡ is_defined ds d
has_past ds m d k i g s = not_defined ds d (λ r. let j : place_of m d ≡ Some r.0 = i r.0 d r.1 in let same : r.0 ≡ k = cc in let there : slice_get ds k ≡ Some d = subst (λ n. slice_get ds n ≡ Some d) same r.1 in absurd (cc))

pub has_none : (ds : List (ℕ × ℕ)) (m : Places) (d : ℕ × ℕ) → IsPlaced ds m → place_of m d ≡ None → false ≡ is_defined ds d
has_none ds m d i g = not_defined ds d (λ r. let j : place_of m d ≡ Some r.0 = i r.0 d r.1 in absurd (cc))

pub placed_insert : (ds : List (ℕ × ℕ)) (m n : Places) (d : ℕ × ℕ) → IsPlaced ds m → is_defined ds d ≡ false → ((e : ℕ × ℕ) → same_pair d e ≡ false → place_of n e ≡ place_of m e) → IsPlaced ds n
placed_insert ds m n d i a u = λ k e s. u e (other e k s) ∙ i k e s
  where
    other : (e : ℕ × ℕ) (k : ℕ) → slice_get ds k ≡ Some e → same_pair d e ≡ false
    other e k s = go (same_pair d e) refl
      where
        go : (b : Bool) → same_pair d e ≡ b → b ≡ false
        go false f = refl
        go true f = absurd (both_ways _ a (at_defined ds k d (s ∙ ap (λ (x : ℕ × ℕ). Some x) (sym (pair_same d e f)))))

before_or_last : (ds : List (ℕ × ℕ)) (d : ℕ × ℕ) (k : ℕ) (e : ℕ × ℕ) → slice_get (ds ++ d ∷ []) k ≡ Some e → (slice_get ds k ≡ Some e) ⊎ ((k ≡ length ds) × (d ≡ e))
before_or_last [] d zero e s = inr (refl, (cc))
before_or_last [] d (suc k) e s = absurd (cc)
before_or_last (c ∷ ds) d zero e s = inl s
before_or_last (c ∷ ds) d (suc k) e s = elim (before_or_last ds d k e s) [ inl a ↦ inl a | inr b ↦ inr (ap suc b.0, b.1) ]

pub placed_push : (ds es : List (ℕ × ℕ)) (m : Places) (d : ℕ × ℕ) → IsPlaced ds m → place_of m d ≡ Some (length ds) → es ≡ ds ++ d ∷ [] → IsPlaced es m
placed_push ds es m d i g e = subst (λ l. IsPlaced l m) (sym e) (λ k x s. elim (before_or_last ds d k x s) [
  | inl a ↦ i k x a
  | inr b ↦ subst (λ (y : ℕ × ℕ). place_of m y ≡ Some k) b.1 (g ∙ ap (λ (n : ℕ). Some n) (sym b.0))
])
