-- The equations of truth values hold, of terms with values of their sorts.
use Rattle.std.proofs.Common.{◌≡◌, ℕ, ◌<◌, Bool, true, false, ◌&&◌, ◌||◌, ◌==◌, not, ◌⊎◌, inl, inr, refl, sym, ap, subst, ◌∙◌, eqb-true, eq-eqb, ne_eqb, arith}
use Rattle.std.proofs.lemmas.Bool.{both_ways, and_parts}
use Rattle.cv_syntax_trees.specs.declared.head.Head.TheVariants.{Eq, And, Or, Not}
use Rattle.cv_syntax_trees.specs.Tree.{Tree, Empty, Node, same_tree}
use Rattle.cv_syntax_trees.proofs.Equality.{same_tree_exact}
use Rattle.cv_meaning.specs.Interpretation.{Setting}
use Rattle.cv_meaning.specs.Memory.{Indices, Store}
use Rattle.cv_meaning.specs.Terms.{bit, is_one, value}
use Rattle.cv_meaning_laws.specs.adequacy.Typed.{Context, HasSort, Scope, Sort, boolean}
use Rattle.cv_scene.specs.lines.Truths.{yes, no, are_sides, is_double, is_truth, is_truth_of_and, is_truth_of_equality, is_truth_of_equation, is_truth_of_not, is_truth_of_or, is_truth_of_sides}
use Rattle.cv_syntax_trees.proofs.lists.Tests.{equals_comm, or_cases}

-- bits

pub bit_true : (b : Bool) → bit b ≡ 1 → b ≡ true
bit_true true e = refl
bit_true false e = absurd (cc)

pub nought_one : (v : ℕ) → v ≡ 0 → v ≡ 1 → ⊥
nought_one v e f = let z : v ≡ v = refl in cc

abbrev pub IsBit : ℕ → Type 0
IsBit v = (v ≡ 0) ⊎ (v ≡ 1)

pub below_two : (v : ℕ) → v < 2 → IsBit v
below_two v l = go (v == 0) refl
  where
    go : (b : Bool) → (v == 0) ≡ b → IsBit v
    go true e = inl (eqb-true v 0 e)
    go false e = inr (one v l e)
      where
        one : (v : ℕ) → v < 2 → (v == 0) ≡ false → v ≡ 1
        one v l e = let n : (v ≡ 0 → ⊥) = λ z. both_ways (v == 0) e (eq-eqb v 0 z) in omega (arith, n)

-- what a bit is
bit_one : (v : ℕ) → IsBit v → bit (v == 1) ≡ v
bit_one v (inl e) = ap (λ w. bit (w == 1)) e ∙ sym e
bit_one v (inr e) = ap (λ w. bit (w == 1)) e ∙ sym e

one_bit : (v : ℕ) → IsBit v → bit (1 == v) ≡ v
one_bit v (inl e) = ap (λ w. bit (1 == w)) e ∙ sym e
one_bit v (inr e) = ap (λ w. bit (1 == w)) e ∙ sym e

and_one : (v : ℕ) → IsBit v → bit (is_one v && true) ≡ v
and_one v (inl e) = ap (λ w. bit (is_one w && true)) e ∙ sym e
and_one v (inr e) = ap (λ w. bit (is_one w && true)) e ∙ sym e

and_nought : (b : Bool) → bit (b && false) ≡ 0
and_nought true = refl
and_nought false = refl

or_one : (b : Bool) → bit (b || true) ≡ 1
or_one true = refl
or_one false = refl

or_nought : (v : ℕ) → IsBit v → bit (is_one v || false) ≡ v
or_nought v (inl e) = ap (λ w. bit (is_one w || false)) e ∙ sym e
or_nought v (inr e) = ap (λ w. bit (is_one w || false)) e ∙ sym e

one_is : (v : ℕ) → IsBit v → bit (is_one v) ≡ v
one_is v (inl e) = ap (λ w. bit (is_one w)) e ∙ sym e
one_is v (inr e) = ap (λ w. bit (is_one w)) e ∙ sym e

not_one : (v : ℕ) → IsBit v → bit (not (is_one v)) ≡ bit (v == 0)
not_one v (inl e) = ap (λ w. bit (not (is_one w))) e ∙ sym (ap (λ w. bit (w == 0)) e)
not_one v (inr e) = ap (λ w. bit (not (is_one w))) e ∙ sym (ap (λ w. bit (w == 0)) e)

not_not : (v : ℕ) → IsBit v → bit (not (is_one (bit (not (is_one v))))) ≡ v
not_not v (inl e) = ap (λ w. bit (not (is_one (bit (not (is_one w)))))) e ∙ sym e
not_not v (inr e) = ap (λ w. bit (not (is_one (bit (not (is_one w)))))) e ∙ sym e

module _ (g : Setting) (c : Context) (rs : Scope) (at : Indices) (n : Store) (bits : (t : Tree) → HasSort c rs t boolean → IsBit (value g at n t)) where
  abbrev V : Tree → ℕ
  V t = value g at n t

  -- equations

  pub equal_true : (a b : Tree) → V a ≡ V b → V (Node Eq a b) ≡ 1
  unfolding value
  equal_true a b e = ap bit (eq-eqb (V a) (V b) e)

  pub true_equal : (a b : Tree) → V (Node Eq a b) ≡ 1 → V a ≡ V b
  unfolding value
  true_equal a b e = eqb-true (V a) (V b) (bit_true (V a == V b) e)

  of_boolean : (t : Tree) (R : Sort) → R ≡ boolean → HasSort c rs t R → IsBit (V t)
  of_boolean t R e h = bits t (subst (HasSort c rs t) e h)

  sides : (l r a b : Tree) → are_sides l r a b ≡ true → (l ≡ a) × (r ≡ b)
  sides l r a b e = let p = and_parts (same_tree l a) (same_tree r b) e in (same_tree_exact l a p.0, same_tree_exact r b p.1)

  -- one side of an equation, by the head of the other

  of_equality : (m k r : Tree) (R : Sort) → HasSort c rs (Node Eq m k) R → HasSort c rs r R → is_truth_of_equality m k r ≡ true → V (Node Eq m k) ≡ V r
  unfolding value HasSort
  of_equality m k r R h i e = go (or_cases (are_sides k r yes m) _ e)
    where
      last : (are_sides k r m yes ≡ true) ⊎ (same_tree r (Node Eq k m) ≡ true) → V (Node Eq m k) ≡ V r
      last (inl p) = let q = sides k r m yes p in equal_true m k (ap V (sym q.0)) ∙ sym (ap V q.1)
      last (inr p) = ap bit (equals_comm (V m) (V k)) ∙ sym (ap V (same_tree_exact r (Node Eq k m) p))

      go : (are_sides k r yes m ≡ true) ⊎ (are_sides k r m yes || same_tree r (Node Eq k m) ≡ true) → V (Node Eq m k) ≡ V r
      go (inl p) = let q = sides k r yes m p in ap (λ t. V (Node Eq m t)) q.0 ∙ (bit_one (V m) (of_boolean m R h.0 (subst (λ t. HasSort c rs t R) q.1 i)) ∙ sym (ap V q.1))
      go (inr p) = last (or_cases (are_sides k r m yes) _ p)

  of_and : (m k r : Tree) (R : Sort) → HasSort c rs (Node And m k) R → is_truth_of_and m k r ≡ true → V (Node And m k) ≡ V r
  unfolding value HasSort
  of_and m k r R h e = go (or_cases (are_sides k r yes m) _ e)
    where
      third : (are_sides k r no no ≡ true) ⊎ (are_sides m r no no ≡ true) → V (Node And m k) ≡ V r
      third (inl p) = let q = sides k r no no p in ap (λ t. V (Node And m t)) q.0 ∙ (and_nought (is_one (V m)) ∙ sym (ap V q.1))
      third (inr p) = let q = sides m r no no p in ap (λ t. V (Node And t k)) q.0 ∙ sym (ap V q.1)

      second : (are_sides m r yes k ≡ true) ⊎ (are_sides k r no no || are_sides m r no no ≡ true) → V (Node And m k) ≡ V r
      second (inl p) = let q = sides m r yes k p in ap (λ t. V (Node And t k)) q.0 ∙ (one_is (V k) (bits k h.2) ∙ sym (ap V q.1))
      second (inr p) = third (or_cases (are_sides k r no no) _ p)

      go : (are_sides k r yes m ≡ true) ⊎ (are_sides m r yes k || (are_sides k r no no || are_sides m r no no) ≡ true) → V (Node And m k) ≡ V r
      go (inl p) = let q = sides k r yes m p in ap (λ t. V (Node And m t)) q.0 ∙ (and_one (V m) (bits m h.1) ∙ sym (ap V q.1))
      go (inr p) = second (or_cases (are_sides m r yes k) _ p)

  of_or : (m k r : Tree) (R : Sort) → HasSort c rs (Node Or m k) R → is_truth_of_or m k r ≡ true → V (Node Or m k) ≡ V r
  unfolding value HasSort
  of_or m k r R h e = go (or_cases (are_sides k r yes yes) _ e)
    where
      third : (are_sides k r no m ≡ true) ⊎ (are_sides m r no k ≡ true) → V (Node Or m k) ≡ V r
      third (inl p) = let q = sides k r no m p in ap (λ t. V (Node Or m t)) q.0 ∙ (or_nought (V m) (bits m h.1) ∙ sym (ap V q.1))
      third (inr p) = let q = sides m r no k p in ap (λ t. V (Node Or t k)) q.0 ∙ (one_is (V k) (bits k h.2) ∙ sym (ap V q.1))

      second : (are_sides m r yes yes ≡ true) ⊎ (are_sides k r no m || are_sides m r no k ≡ true) → V (Node Or m k) ≡ V r
      second (inl p) = let q = sides m r yes yes p in ap (λ t. V (Node Or t k)) q.0 ∙ sym (ap V q.1)
      second (inr p) = third (or_cases (are_sides k r no m) _ p)

      go : (are_sides k r yes yes ≡ true) ⊎ (are_sides m r yes yes || (are_sides k r no m || are_sides m r no k) ≡ true) → V (Node Or m k) ≡ V r
      go (inl p) = let q = sides k r yes yes p in ap (λ t. V (Node Or m t)) q.0 ∙ (or_one (is_one (V m)) ∙ sym (ap V q.1))
      go (inr p) = second (or_cases (are_sides m r yes yes) _ p)

  double : (m r : Tree) → HasSort c rs m boolean → is_double m r ≡ true → (a b : Tree) × (m ≡ Node Not a b) × (r ≡ a)
  double (Node Not a b) r h e = (a, b, refl, same_tree_exact r a e)
  double Empty r h e = absurd (both_ways false refl e)
  double (Node k a b) r h e = absurd (both_ways false refl e)

  of_not : (m b r : Tree) (R : Sort) → HasSort c rs (Node Not m b) R → is_truth_of_not m r ≡ true → V (Node Not m b) ≡ V r
  unfolding value HasSort
  of_not m b r R h e = go (or_cases (same_tree r (Node Eq m no)) _ e)
    where
      twice : (a d : Tree) → m ≡ Node Not a d → r ≡ a → V (Node Not m b) ≡ V r
      twice a d i j = ap (λ t. V (Node Not t b)) i ∙ (not_not (V a) (bits a (subst (λ t. HasSort c rs t boolean) i h.1).1) ∙ sym (ap V j))

      third : (are_sides m r no yes ≡ true) ⊎ (is_double m r ≡ true) → V (Node Not m b) ≡ V r
      third (inl p) = let q = sides m r no yes p in ap (λ t. V (Node Not t b)) q.0 ∙ sym (ap V q.1)
      third (inr p) = let q = double m r h.1 p in twice q.0 q.1 q.2 q.3

      second : (are_sides m r yes no ≡ true) ⊎ (are_sides m r no yes || is_double m r ≡ true) → V (Node Not m b) ≡ V r
      second (inl p) = let q = sides m r yes no p in ap (λ t. V (Node Not t b)) q.0 ∙ sym (ap V q.1)
      second (inr p) = third (or_cases (are_sides m r no yes) _ p)

      go : (same_tree r (Node Eq m no) ≡ true) ⊎ (are_sides m r yes no || (are_sides m r no yes || is_double m r) ≡ true) → V (Node Not m b) ≡ V r
      go (inl p) = not_one (V m) (bits m h.1) ∙ sym (ap V (same_tree_exact r (Node Eq m no) p))
      go (inr p) = second (or_cases (are_sides m r yes no) _ p)

  of_sides : (l r : Tree) (R : Sort) → HasSort c rs l R → HasSort c rs r R → is_truth_of_sides l r ≡ true → V l ≡ V r
  of_sides (Node Eq m k) r R h i e = of_equality m k r R h i e
  of_sides (Node And m k) r R h i e = of_and m k r R h e
  of_sides (Node Or m k) r R h i e = of_or m k r R h e
  of_sides (Node Not m k) r R h i e = of_not m k r R h e
  of_sides Empty r R h i e = absurd (both_ways false refl e)
  of_sides (Node k a b) r R h i e = absurd (both_ways false refl e)

  of_equation : (t : Tree) (S : Sort) → HasSort c rs t S → is_truth_of_equation t ≡ true → V t ≡ 1
  unfolding value HasSort
  of_equation (Node Eq l r) S h e = equal_true l r (go (or_cases (same_tree r (Node Eq l yes)) _ e))
    where
      go : (same_tree r (Node Eq l yes) ≡ true) ⊎ (is_truth_of_sides l r ≡ true) → V l ≡ V r
      go (inl p) =
          let q = same_tree_exact r (Node Eq l yes) p in
          let k = subst (λ t. HasSort c rs t h.1) q h.3 in
          sym (ap V q ∙ bit_one (V l) (of_boolean l h.1 k.0 h.2))
      go (inr p) = of_sides l r h.1 h.2 h.3 p
  of_equation Empty S h e = absurd (both_ways false refl e)
  of_equation (Node k a b) S h e = absurd (both_ways false refl e)

  pub truth_holds : (t : Tree) (S : Sort) → HasSort c rs t S → is_truth t ≡ true → V t ≡ 1
  unfolding value
  truth_holds t S h e = go (or_cases (same_tree t yes) _ e)
    where
      go : (same_tree t yes ≡ true) ⊎ (is_truth_of_equation t ≡ true) → V t ≡ 1
      go (inl p) = ap V (same_tree_exact t yes p)
      go (inr p) = of_equation t S h p
