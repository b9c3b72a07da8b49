-- Games where terms at several places are changed: how much they count.
use Rattle.std.proofs.Common.{◌≡◌, ℕ, ◌+◌, ◌-◌, ◌<◌, ◌≤◌, ◌&&◌, Bool, true, false, cond, refl, sym, ap, ap₂, subst, ◌∙◌, arith, nat_lt, ltb-true, ltb-false, lt-ltb}
use Rattle.std.proofs.lemmas.Bool.{both_ways}
use Rattle.cv_syntax_trees.specs.declared.head.Head.{Head}
use Rattle.cv_syntax_trees.specs.declared.head.Head.TheVariants.{Branch, Eq, In}
use Rattle.cv_syntax_trees.specs.Head.{weight}
use Rattle.cv_syntax_trees.specs.Tree.{Tree, Empty, Node, first_place, second_place, size}
use Rattle.cv_syntax_trees.specs.sites.Sites.{first_of}
use Rattle.cv_meaning.specs.Still.{is_still}
use Rattle.cv_scope_rules.specs.Phrases.{Arm, Inputs, Phrase}
use Rattle.cv_scene.specs.Scenes.{Scene, part_at}
use Rattle.cv_steps.specs.Rewriting.{parts_of}
use Rattle.cv_steps.proofs.Places.{is_bare}
use Rattle.cv_steps_laws.proofs.Unletted.{has_names}
use Rattle.cv_costs.specs.wording.Changing.{changed_at, is_changed}
use Rattle.cv_costs.proofs.wording.Places.{AreAt, IsHere, at_first, at_node, at_second, kept_bare}
use Rattle.cv_settling_rules.specs.Measure.{is_large_equality, large_equalities}
use Rattle.cv_settling_rules.proofs.Listing.{weight_le}
use Rattle.cv_settling_measures.proofs.Equalities.{counted, is_large_term, large_head}
use Rattle.cv_settling_measures.proofs.Sites.{here_of_names, site_sort, still_sites}
use Rattle.cv_settling_descent.proofs.Putting.{one_if_less}

-- a tree is of a large type only if another one is
abbrev pub IsNoLarger : Scene → (new old : Tree) → Type 0
IsNoLarger s u t = is_large_term s u ≡ true → is_large_term s t ≡ true

-- what a count of a tree takes of a node beside its children doesn't grow with the children, where the first one is no larger
abbrev pub IsAdditive : Scene → (Tree → ℕ) → Type 0
IsAdditive s count = (h : Head) (a b c d : Tree) → IsNoLarger s c a → count (Node h c d) + (count a + count b) ≤ count (Node h a b) + (count c + count d)

no_equality : (s : Scene) (h : Head) (a c : Tree) → IsNoLarger s c a → is_large_equality s h c ≡ true → is_large_equality s h a ≡ true
no_equality s Eq a c k e = k e
no_equality s h a c k e = e

pub equalities_additive : (s : Scene) → IsAdditive s (large_equalities s)
unfolding large_equalities
equalities_additive s h a b c d k =
    let i : counted s h c ≤ counted s h a = one_if_less (is_large_equality s h c) (is_large_equality s h a) (no_equality s h a c k) in omega arith

pub size_additive : (s : Scene) → IsAdditive s size
unfolding size
size_additive s h a b c d k = omega arith

names_are_bare : (σ : Phrase) (h : Head) → has_names h ≡ true → is_bare (parts_of σ h).0 ≡ true
names_are_bare σ (In c) e = pattern σ
  where
    pattern : (σ : Phrase) → is_bare (parts_of σ (In c)).0 ≡ true
    pattern Inputs = refl
    pattern σ = refl
names_are_bare σ Branch e = binders σ
  where
    binders : (σ : Phrase) → is_bare (parts_of σ Branch).0 ≡ true
    binders Arm = refl
    binders σ = refl
names_are_bare σ h e = absurd (both_ways false refl e)

module _ (s : Scene) (places : ℕ → Bool) (change : Tree → Tree) (game : Tree) where
  abbrev changed : ℕ → Tree → Tree
  changed p t = changed_at places change p t

  changed_here : (p : ℕ) (h : Head) (a b : Tree) → is_changed places p h ≡ true → changed p (Node h a b) ≡ change (Node h a b)
  unfolding changed_at
  changed_here p h a b e = ap (λ v. cond v (change (Node h a b)) (Node h (changed (first_place p h) a) (changed (second_place p h a) b))) e

  changed_below : (p : ℕ) (h : Head) (a b : Tree) → is_changed places p h ≡ false → changed p (Node h a b) ≡ Node h (changed (first_place p h) a) (changed (second_place p h a) b)
  unfolding changed_at
  changed_below p h a b e = ap (λ v. cond v (change (Node h a b)) (Node h (changed (first_place p h) a) (changed (second_place p h a) b))) e

  -- a fact of each place, and of what is changed there
  module _ (R : Tree → Tree → Type 0) (each : (p : ℕ) → places p ≡ true → R (change (part_at game p)) (part_at game p)) where
    pub at_change : (σ : Phrase) (p : ℕ) (h : Head) (a b : Tree) → AreAt places change game σ p (Node h a b) → is_changed places p h ≡ true → R (changed p (Node h a b)) (Node h a b)
    at_change σ p h a b k e =
        let n : IsHere places change game σ p h a b = at_node places change game σ p h a b k e in
        subst (λ t. R t (Node h a b)) (sym (changed_here p h a b e)) (subst (λ t. R (change t) t) n.part (each p n.place))

  -- sorts

  module _ (sorts : (p : ℕ) → places p ≡ true → IsNoLarger s (change (part_at game p)) (part_at game p)) where
    large_changed : (σ : Phrase) (p : ℕ) (t : Tree) → AreAt places change game σ p t → IsNoLarger s (changed p t) t
    unfolding changed_at
    large_changed σ p Empty k l = l
    large_changed σ p (Node h a b) k l = go (is_changed places p h) refl
      where
        go : (v : Bool) → is_changed places p h ≡ v → is_large_term s (Node h a b) ≡ true
        go true e = at_change (λ u t. IsNoLarger s u t) sorts σ p h a b k e l
        go false e = large_head s h a b (changed (first_place p h) a) (changed (second_place p h a) b) ∙ (ap (is_large_term s) (sym (changed_below p h a b e)) ∙ l)

    -- counts

    module _ (count : Tree → ℕ) (additive : IsAdditive s count) where
      below : (σ : Phrase) (p : ℕ) (h : Head) (a b : Tree) → AreAt places change game σ p (Node h a b) → is_changed places p h ≡ false
          → count (changed p (Node h a b)) + (count a + count b) ≤ count (Node h a b) + (count (changed (first_place p h) a) + count (changed (second_place p h a) b))
      below σ p h a b k e =
          subst (λ t. count t + (count a + count b) ≤ count (Node h a b) + (count (changed (first_place p h) a) + count (changed (second_place p h a) b))) (sym (changed_below p h a b e))
          (additive h a b (changed (first_place p h) a) (changed (second_place p h a) b) (large_changed (parts_of σ h).0 (first_place p h) a (at_first places change game σ h a b p k)))

      pub counts_no_more : ((p : ℕ) → places p ≡ true → count (change (part_at game p)) ≤ count (part_at game p)) → (σ : Phrase) (p : ℕ) (t : Tree) → AreAt places change game σ p t → count (changed p t) ≤ count t
      unfolding changed_at
      counts_no_more less σ p Empty k = omega arith
      counts_no_more less σ p (Node h a b) k =
          go (is_changed places p h) refl
          (counts_no_more less (parts_of σ h).0 (first_place p h) a (at_first places change game σ h a b p k))
          (counts_no_more less (parts_of σ h).1 (second_place p h a) b (at_second places change game σ h a b p k))
        where
          go : (v : Bool) → is_changed places p h ≡ v → count (changed (first_place p h) a) ≤ count a → count (changed (second_place p h a) b) ≤ count b → count (changed p (Node h a b)) ≤ count (Node h a b)
          go true e y z = at_change (λ u t. count u ≤ count t) less σ p h a b k e
          go false e y z = omega (arith, below σ p h a b k e, y, z)

      module _ (fewer : (p : ℕ) → places p ≡ true → count (change (part_at game p)) < count (part_at game p)) where
        no_more : (σ : Phrase) (p : ℕ) (t : Tree) → AreAt places change game σ p t → count (changed p t) ≤ count t
        no_more σ p t k = counts_no_more (λ q e. omega (arith, fewer q e)) σ p t k

        pub counts_fewer : (σ : Phrase) (p : ℕ) (t : Tree) → AreAt places change game σ p t → (q : ℕ) → places (p + q) ≡ true → q < size t → count (changed p t) < count t
        unfolding size
        counts_fewer σ p Empty k q e l = absurd (omega (arith, l))
        counts_fewer σ p (Node h a b) k q e l =
            go (is_changed places p h) refl (nat_lt q (weight h)) refl (nat_lt q (weight h + size a)) refl
            (counts_fewer (parts_of σ h).0 (first_place p h) a (at_first places change game σ h a b p k))
            (counts_fewer (parts_of σ h).1 (second_place p h a) b (at_second places change game σ h a b p k))
          where
            in_place : q < weight h → is_changed places p h ≡ true
            in_place m =
                let one : weight h ≤ 1 = weight_le h in
                ap₂ ◌&&◌ (lt-ltb 0 (weight h) (omega arith)) (subst (λ n. places n ≡ true) (let z : p + q ≡ p = omega arith in z) e)

            go : (u : Bool) → is_changed places p h ≡ u → (v : Bool) → nat_lt q (weight h) ≡ v → (w : Bool) → nat_lt q (weight h + size a) ≡ w
                → ((n : ℕ) → places (first_place p h + n) ≡ true → n < size a → count (changed (first_place p h) a) < count a)
                → ((n : ℕ) → places (second_place p h a + n) ≡ true → n < size b → count (changed (second_place p h a) b) < count b) → count (changed p (Node h a b)) < count (Node h a b)
            go true f v i w j y z = at_change (λ u t. count u < count t) fewer σ p h a b k f
            go false f true i w j y z = absurd (both_ways (is_changed places p h) f (in_place (ltb-true q (weight h) i)))
            go false f false i true j y z =
                let m : weight h ≤ q = ltb-false q (weight h) i in
                let n : q < weight h + size a = ltb-true q (weight h + size a) j in
                omega (
                  arith,
                  below σ p h a b k f,
                  y (q - weight h) (subst (λ n. places n ≡ true) (let z : p + q ≡ p + weight h + (q - weight h) = omega arith in z) e) (omega arith),
                  no_more (parts_of σ h).1 (second_place p h a) b (at_second places change game σ h a b p k),
                )
            go false f false i false j y z =
                let m : weight h + size a ≤ q = ltb-false q (weight h + size a) j in
                omega (
                  arith,
                  below σ p h a b k f,
                  no_more (parts_of σ h).0 (first_place p h) a (at_first places change game σ h a b p k),
                  z (q - (weight h + size a))
                      (subst (λ n. places n ≡ true) (let z : p + q ≡ p + weight h + size a + (q - (weight h + size a)) = omega arith in z) e) (omega arith),
                )

  -- sites

  pub changed_sites : ((p : ℕ) → places p ≡ true → (is_still (change (part_at game p)) ≡ true) × (is_still (part_at game p) ≡ true)) → (y : ℕ) (σ : Phrase) (p : ℕ) (t : Tree) → AreAt places change game σ p t → site_sort y (changed p t) ≡ site_sort y t
  unfolding site_sort changed_at
  changed_sites still y σ p Empty k = refl
  changed_sites still y σ p (Node h a b) k =
      go (is_changed places p h) refl
      (changed_sites still y (parts_of σ h).0 (first_place p h) a (at_first places change game σ h a b p k))
      (changed_sites still y (parts_of σ h).1 (second_place p h a) b (at_second places change game σ h a b p k))
    where
      go : (v : Bool) → is_changed places p h ≡ v → site_sort y (changed (first_place p h) a) ≡ site_sort y a → site_sort y (changed (second_place p h a) b) ≡ site_sort y b → site_sort y (changed p (Node h a b)) ≡ site_sort y (Node h a b)
      go true e m n =
          let r = at_change (λ u t. (is_still u ≡ true) × (is_still t ≡ true)) still σ p h a b k e in
          still_sites y (changed p (Node h a b)) r.0 ∙ sym (still_sites y (Node h a b) r.1)
      go false e m n =
          ap (site_sort y) (changed_below p h a b e)
          ∙ ap₂ first_of (here_of_names y h (changed (first_place p h) a) a (λ i. kept_bare places change game (parts_of σ h).0 (first_place p h) a (names_are_bare σ h i) (at_first places change game σ h a b p k))) (ap₂ first_of m n)
