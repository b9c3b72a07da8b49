-- The value of a term in which terms stand for names.
use Rattle.std.proofs.Common.{◌≡◌, ℕ, Bool, true, false, cond, ◌&&◌, ◌||◌, ◌==◌, not, List, [], ◌∷◌, map, Option, Some, None, refl, sym, ap, ap₂, ◌∙◌}
use Rattle.cv_syntax_trees.specs.declared.head.Head.TheVariants.{Leaf, Read, Apply, Eq, And, Or, Not, Yes, No, Cons}
use Rattle.cv_syntax_trees.specs.Tree.{Tree, Empty, Node}
use Rattle.cv_meaning.specs.Interpretation.{Setting}
use Rattle.cv_meaning.specs.Memory.{Indices, Store, tuple}
use Rattle.cv_meaning.specs.Terms.{bit, found_in, is_one, leaf_value, leaf_value_from, or_zero, value, values}
use Rattle.cv_scene.specs.lines.Given.{term_for, or_node, with_given}
use Rattle.cv_derive_laws.specs.stores.Truth.{AreOver, IsOver}

-- the names of indices
abbrev pub names_of : Indices → List ℕ
names_of ix = map (λ (p : ℕ × ℕ). p.0) ix

-- a name has a term where it is an index, whose value the term has
data IsGiven (g : Setting) (at : Indices) (n : Store) (x : ℕ) : Option Tree → Option ℕ → Type 0 where
  absent : IsGiven g at n x None None
  present : {t : Tree} {v : ℕ} → value g at n t ≡ v → IsGiven g at n x (Some t) (Some v)

head_same : (x y : ℕ) (xs ys : List ℕ) → x ∷ xs ≡ y ∷ ys → x ≡ y
head_same x y xs ys e = cc

tail_same : (x y : ℕ) (xs ys : List ℕ) → x ∷ xs ≡ y ∷ ys → xs ≡ ys
tail_same x y xs ys e = cc

no_nil : (x : ℕ) (xs : List ℕ) → [] ≡ x ∷ xs → ⊥
no_nil x xs e = cc

module _ (g : Setting) (at : Indices) (n : Store) where
  given_value : (ix : Indices) (terms : Tree) → values g at n terms ≡ tuple ix → (x : ℕ) → IsGiven g at n x (term_for (names_of ix) terms x) (found_in ix x)
  unfolding values
  given_value [] terms e x = absent
  given_value (p ∷ ix) Empty e x = absurd (no_nil p.1 (tuple ix) e)
  given_value (p ∷ ix) (Node h a b) e x = go (p.0 == x) (given_value ix b (tail_same (value g at n a) p.1 (values g at n b) (tuple ix) e) x)
    where
      go : (c : Bool) → IsGiven g at n x (term_for (names_of ix) b x) (found_in ix x) → IsGiven g at n x (cond c (Some a) (term_for (names_of ix) b x)) (cond c (Some p.1) (found_in ix x))
      go true r = present (head_same (value g at n a) p.1 (values g at n b) (tuple ix) e)
      go false r = r

  module _ (k : Store) (L : ℕ → Type 0) (R : Type 0) (ix : Indices) (terms : Tree) (same : values g at n terms ≡ tuple ix)
      (leaves : (x : ℕ) → L x → found_in ix x ≡ None → leaf_value_from g n x (found_in at x) ≡ leaf_value_from g k x None) (reads : R → (x : ℕ) (u : List ℕ) → n x u ≡ k x u) where
    abbrev put : Tree → Tree
    put t = with_given (names_of ix) terms t

    leaf_same : (x : ℕ) (a b : Tree) → L x → value g at n (or_node (term_for (names_of ix) terms x) (Leaf x) a b) ≡ leaf_value g ix k x
    unfolding value
    leaf_same x a b l = go (term_for (names_of ix) terms x) (found_in ix x) refl (given_value ix terms same x)
      where
        go : (o : Option Tree) (q : Option ℕ) → found_in ix x ≡ q → IsGiven g at n x o q → value g at n (or_node o (Leaf x) a b) ≡ leaf_value_from g k x (found_in ix x)
        go None (Some v) e i = elim i [ ]
        go (Some t) None e i = elim i [ ]
        go None None e absent = leaves x l e ∙ sym (ap (leaf_value_from g k x) e)
        go (Some t) (Some v) e (present i) = i ∙ sym (ap (leaf_value_from g k x) e)

    mutual
      unfolding value with_given

      pub put_value : (t : Tree) → IsOver L R t → value g at n (put t) ≡ value g ix k t
      put_value Empty o = absurd o
      put_value (Node (Leaf x) a b) o = leaf_same x (put a) (put b) o
      put_value (Node (Read x) a b) o = ap or_zero (reads o.0 x (values g at n (put a)) ∙ ap (k x) (put_values a o.1))
      put_value (Node (Apply f) a b) o = ap (g.interpretation.table f) (put_values a o)
      put_value (Node Eq a b) o = ap₂ (λ x y. bit (x == y)) (put_value a o.0) (put_value b o.1)
      put_value (Node And a b) o = ap₂ (λ x y. bit (is_one x && is_one y)) (put_value a o.0) (put_value b o.1)
      put_value (Node Or a b) o = ap₂ (λ x y. bit (is_one x || is_one y)) (put_value a o.0) (put_value b o.1)
      put_value (Node Not a b) o = ap (λ x. bit (not (is_one x))) (put_value a o)
      put_value (Node Yes a b) o = refl
      put_value (Node No a b) o = refl
      put_value (Node h a b) o = absurd o

      pub put_values : (t : Tree) → AreOver L R t → values g at n (put t) ≡ values g ix k t
      put_values Empty o = refl
      put_values (Node Cons a b) o = ap₂ ◌∷◌ (put_value a o.0) (put_values b o.1)
      put_values (Node h a b) o = absurd o
