-- Where the names that a next game reads have their sorts, its measure is counted by the sorts of the game.
use Rattle.std.proofs.Common.{◌≡◌, ℕ, ◌+◌, ◌<◌, ◌≤◌, ◌==◌, ◌||◌, ◌&&◌, ◌⊎◌, inl, inr, Bool, true, false, not, [], Option, Some, None, refl, sym, ap, ap₂, ◌∙◌, arith, nat_lt, ltb-false, lt-ltb, eq-eqb}
use Rattle.std.specs.Prelude.{option_map}
use Rattle.std.proofs.lemmas.Bool.{both_ways, and_parts}
use Rattle.cv_syntax_trees.specs.declared.head.Head.{Head}
use Rattle.cv_syntax_trees.specs.declared.head.Head.TheVariants.{Apply, Eq, Leaf, Read}
use Rattle.cv_syntax_trees.specs.declared.sites.sort.Sort.{Sort}
use Rattle.cv_syntax_trees.specs.declared.sites.sort.Sort.TheVariants.{BelowParameter, OfType}
use Rattle.cv_syntax_trees.specs.Tree.{Tree, Empty, Node, head_reads_only, reads_only, size}
use Rattle.cv_syntax_trees.specs.sites.Sites.{Variable, first_index, first_of, first_site}
use Rattle.cv_meaning_chances.specs.unread.Dropping.{reads_none}
use Rattle.cv_scope_rules.specs.typing.Signature.{Function, function_in}
use Rattle.cv_scene.specs.Scenes.{Scene}
use Rattle.cv_steps.specs.Changes.{only}
use Rattle.cv_settling_rules.specs.Measure.{is_large_equality, is_of_large, large_equalities, lowers}
use Rattle.cv_settling_measures.proofs.Equalities.{is_large_term, one_if}
use Rattle.cv_settling_measures.proofs.Nodes.{AllNodes}
use Rattle.cv_settling_measures.proofs.Sites.{site_sort, sort_of_site}

module _ (s : Scene) (next : Tree) where
  abbrev after : Scene
  after = record s { game = next }

  -- the name has its sort
  abbrev pub Stays : ℕ → Type 0
  Stays x = site_sort x next ≡ site_sort x s.game

  abbrev pub ReadsStay : Head → Tree → Tree → Type 0
  ReadsStay (Leaf x) a b = Stays x
  ReadsStay (Read x) a b = Stays x
  ReadsStay h a b = Unit {0}

  of_sort : (R : Option Sort) → is_of_large after R ≡ is_of_large s R
  of_sort None = refl
  of_sort (Some (OfType T)) = refl
  of_sort (Some (BelowParameter n)) = refl

  abbrev sort_from : Option Sort → Option Function → Option ℕ → Option Sort
  sort_from R f i = first_of R (first_of (option_map (λ (g : Function). OfType g.result) f) (option_map BelowParameter i))

  -- of an index that is bound elsewhere the parameter doesn't matter
  of_leaf : (R : Option Sort) (f : Option Function) (i j : Option ℕ) → is_of_large after (sort_from R f i) ≡ is_of_large s (sort_from R f j)
  of_leaf (Some R) f i j = of_sort (Some R)
  of_leaf None (Some f) i j = refl
  of_leaf None None None None = refl
  of_leaf None None None (Some j) = refl
  of_leaf None None (Some i) None = refl
  of_leaf None None (Some i) (Some j) = refl

  same_sites : (x : ℕ) → Stays x → option_map (λ (v : Variable). v.sort) (first_site x [] next) ≡ option_map (λ (v : Variable). v.sort) (first_site x [] s.game)
  same_sites x e = sort_of_site x [] next ∙ (e ∙ sym (sort_of_site x [] s.game))

  term_stays : (h : Head) (a b : Tree) → ReadsStay h a b → is_large_term after (Node h a b) ≡ is_large_term s (Node h a b)
  term_stays (Leaf x) a b e =
      ap (λ R. is_of_large after (sort_from R (function_in s.declarations x) (first_index x next))) (same_sites x e)
      ∙ of_leaf (option_map (λ (v : Variable). v.sort) (first_site x [] s.game)) (function_in s.declarations x) (first_index x next) (first_index x s.game)
  term_stays (Read x) a b e = ap (is_of_large after) (same_sites x e) ∙ of_sort (option_map (λ (v : Variable). v.sort) (first_site x [] s.game))
  term_stays (Apply f) a b e = of_sort (option_map (λ (g : Function). OfType g.result) (function_in s.declarations f))
  term_stays h a b e = refl

  left_stays : (t : Tree) → AllNodes ReadsStay t → is_large_term after t ≡ is_large_term s t
  unfolding AllNodes
  left_stays Empty k = refl
  left_stays (Node h a b) k = term_stays h a b k.0

  equality_stays : (h : Head) (a : Tree) → AllNodes ReadsStay a → is_large_equality after h a ≡ is_large_equality s h a
  equality_stays Eq a k = left_stays a k
  equality_stays h a k = refl

  equalities_stay : (t : Tree) → AllNodes ReadsStay t → large_equalities after t ≡ large_equalities s t
  unfolding AllNodes large_equalities
  equalities_stay Empty k = refl
  equalities_stay (Node h a b) k = ap₂ ◌+◌ (ap one_if (equality_stays h a k.1)) (ap₂ ◌+◌ (equalities_stay a k.1) (equalities_stay b k.2))

  -- each name has its sort that is read

  reads_itself : (x : ℕ) → not (only x x) ≡ true → ⊥
  reads_itself x e = both_ways _ (ap not (eq-eqb x x refl)) e

  head_stays : (h : Head) (a b : Tree) → ((x : ℕ) → Stays x ⊎ (head_reads_only (λ y. not (only x y)) h ≡ true)) → ReadsStay h a b
  head_stays (Leaf x) a b k = elim (k x) [ inl e ↦ e | inr e ↦ absurd (reads_itself x e) ]
  head_stays (Read x) a b k = elim (k x) [ inl e ↦ e | inr e ↦ absurd (reads_itself x e) ]
  head_stays h a b k = tt

  weaken : {A : Type 0} {b c : Bool} → (b ≡ true → c ≡ true) → A ⊎ (b ≡ true) → A ⊎ (c ≡ true)
  weaken f (inl a) = inl a
  weaken f (inr e) = inr (f e)

  all_stay : (t : Tree) → ((x : ℕ) → Stays x ⊎ (reads_none (only x) t ≡ true)) → AllNodes ReadsStay t
  unfolding AllNodes reads_only
  all_stay Empty k = tt
  all_stay (Node h a b) k = (
    head_stays h a b (λ x. weaken (λ e. (and_parts (head_reads_only (λ y. not (only x y)) h) _ e).0) (k x)),
    all_stay a (λ x. weaken (λ e. (and_parts (reads_none (only x) a) _ (and_parts (head_reads_only (λ y. not (only x y)) h) _ e).1).0) (k x)),
    all_stay b (λ x. weaken (λ e. (and_parts (reads_none (only x) a) _ (and_parts (head_reads_only (λ y. not (only x y)) h) _ e).1).1) (k x)),
  )

  -- so the next game is lower where it has fewer equalities by the sorts of the game, or no more of them and fewer nodes

  by_either : (m n k l : ℕ) → (m < n) ⊎ ((m ≤ n) × (k < l)) → (nat_lt m n || ((m == n) && nat_lt k l)) ≡ true
  by_either m n k l d = go (nat_lt m n) refl d
    where
      go : (v : Bool) → nat_lt m n ≡ v → (m < n) ⊎ ((m ≤ n) × (k < l)) → (v || ((m == n) && nat_lt k l)) ≡ true
      go true e d = refl
      go false e (inl i) = absurd (let j = ltb-false m n e in omega arith)
      go false e (inr i) = ap₂ ◌&&◌ (eq-eqb m n (let j = ltb-false m n e in let o = i.0 in omega arith)) (lt-ltb k l i.1)

  abbrev pub AllStay : Type 0
  AllStay = (x : ℕ) → Stays x ⊎ (reads_none (only x) next ≡ true)

  pub counted_before : AllStay → large_equalities (record s { game = next }) next ≡ large_equalities s next
  counted_before k = equalities_stay next (all_stay next k)

  pub lower_by : AllStay → (large_equalities s next < large_equalities s s.game) ⊎ ((large_equalities s next ≤ large_equalities s s.game) × (size next < size s.game)) → lowers s next ≡ true
  lower_by k d = ap (λ n. nat_lt n (large_equalities s s.game) || ((n == large_equalities s s.game) && nat_lt (size next) (size s.game))) (counted_before k) ∙ by_either (large_equalities s next) (large_equalities s s.game) (size next) (size s.game) d
