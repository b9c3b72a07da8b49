-- Games without the definitions of a variable.
use Rattle.std.proofs.Common.{◌≡◌, ℕ, ◌+◌, ◌<◌, ◌≤◌, ◌==◌, ◌&&◌, ◌||◌, ◌⊎◌, inl, inr, Bool, true, false, cond, not, refl, sym, ap, ap₂, subst, arith, eq-eqb, eqb-true}
use Rattle.std.proofs.lemmas.Bool.{both_ways, and_parts}
use Rattle.cv_syntax_trees.specs.declared.head.Head.{Head}
use Rattle.cv_syntax_trees.specs.declared.head.Head.TheVariants.{Eq, Let, New}
use Rattle.cv_syntax_trees.specs.Head.{weight}
use Rattle.cv_syntax_trees.specs.Tree.{Tree, Empty, Node, head_reads_only, reads_only, size}
use Rattle.cv_syntax_trees.proofs.lists.Tests.{or_cases}
use Rattle.cv_meaning_chances.specs.unread.Dropping.{reads_none}
use Rattle.cv_meaning.specs.Still.{defines}
use Rattle.cv_scope_rules.specs.Made.{made_by}
use Rattle.cv_scope_rules.specs.Phrases.{Inputs, Phrase, Term, is_phrase}
use Rattle.cv_scope_rules.specs.Sites.{Variable}
use Rattle.cv_scene.specs.Scenes.{Scene, first_reading, has_news_alone, has_some_new, is_chosen, is_new_head, is_queried}
use Rattle.cv_steps.specs.Changes.{only, without}
use Rattle.cv_steps.specs.Rows.{unnew_row}
use Rattle.cv_steps.specs.Steps.{Cost, Leads, Zero}
use Rattle.cv_steps.proofs.Flat.{flat_dropped, open_phrase}
use Rattle.cv_steps.proofs.Rows.{leads_same, unless_at_leads, unless_leads}
use Rattle.cv_steps_laws.proofs.Unnamed.{unlisted_unread}
use Rattle.cv_settling_rules.specs.Measure.{is_large_equality, large_equalities, lowers}
use Rattle.cv_settling_measures.proofs.Equalities.{counted, equalities_in, is_large_term, one_if, size_in}
use Rattle.cv_settling_measures.proofs.Names.{Stays, lower_by}
use Rattle.cv_settling_measures.proofs.Nodes.{IsIn, in_first, in_second, itself}
use Rattle.cv_settling_measures.proofs.Sites.{sites_without}

defining_weight : (xs : ℕ → Bool) (h : Head) → defines xs h ≡ true → weight h ≡ 1
defining_weight xs (New x T) e = refl
defining_weight xs (Let x T) e = refl
defining_weight xs h e = absurd (both_ways false refl e)

pub size_without : (xs : ℕ → Bool) (t : Tree) → size (without xs t) ≤ size t
unfolding size without
size_without xs Empty = omega arith
size_without xs (Node h a b) = go (defines xs h) (size_without xs a) (size_without xs b)
  where
    go : (v : Bool) → size (without xs a) ≤ size a → size (without xs b) ≤ size b → size (cond v (without xs b) (Node h (without xs a) (without xs b))) ≤ weight h + size a + size b
    go true k l = omega (arith, l)
    go false k l = omega (arith, k, l)

-- a definition that goes takes its term with it
pub size_definition : (xs : ℕ → Bool) (h : Head) (m c : Tree) → defines xs h ≡ true → (t : Tree) → IsIn (Node h m c) t → size (without xs t) + size m < size t
unfolding size without
size_definition xs h m c d t itself =
    subst (λ (v : Bool). size (cond v (without xs c) (Node h (without xs m) (without xs c))) + size m < weight h + size m + size c) (sym d)
    (omega (arith, size_without xs c, defining_weight xs h d))
size_definition xs h m c d t (in_first {h = k} {a = a} {b = b} i) = go (defines xs k) (size_definition xs h m c d a i) (size_without xs b) (size_in (Node h m c) a i)
  where
    go : (v : Bool) → size (without xs a) + size m < size a → size (without xs b) ≤ size b → weight h + size m + size c ≤ size a → size (cond v (without xs b) (Node k (without xs a) (without xs b))) + size m < weight k + size a + size b
    go true n l j = omega (arith, l, j, defining_weight xs h d)
    go false n l j = omega (arith, n, l)
size_definition xs h m c d t (in_second {h = k} {a = a} {b = b} i) = go (defines xs k) (size_without xs a) (size_definition xs h m c d b i)
  where
    go : (v : Bool) → size (without xs a) ≤ size a → size (without xs b) + size m < size b → size (cond v (without xs b) (Node k (without xs a) (without xs b))) + size m < weight k + size a + size b
    go true n l = omega (arith, l)
    go false n l = omega (arith, n, l)

left_without : (xs : ℕ → Bool) (σ : Phrase) (a b : Tree) → is_phrase σ (Node Eq a b) ≡ true → without xs a ≡ a
unfolding is_phrase
left_without xs Term a b e = flat_dropped xs Term a refl (and_parts (is_phrase Term a) _ e).0
left_without xs σ a b e = absurd (both_ways false refl e)

module _ (s : Scene) where
  -- terms stay
  pub equality_without : (xs : ℕ → Bool) (σ : Phrase) (h : Head) (a b : Tree) → is_phrase σ (Node h a b) ≡ true → is_large_equality s h (without xs a) ≡ is_large_equality s h a
  equality_without xs σ Eq a b e = ap (is_large_term s) (left_without xs σ a b e)
  equality_without xs σ h a b e = refl

  pub equalities_without : (xs : ℕ → Bool) (σ : Phrase) (t : Tree) → is_phrase σ t ≡ true → large_equalities s (without xs t) ≤ large_equalities s t
  unfolding large_equalities without
  equalities_without xs σ Empty e = omega arith
  equalities_without xs σ (Node h a b) e =
      let o = open_phrase σ h a b e in go (defines xs h) (equalities_without xs o.0.0 a o.2) (equalities_without xs o.0.1 b o.3)
    where
      go : (v : Bool) → large_equalities s (without xs a) ≤ large_equalities s a → large_equalities s (without xs b) ≤ large_equalities s b
          → large_equalities s (cond v (without xs b) (Node h (without xs a) (without xs b))) ≤ counted s h a + (large_equalities s a + large_equalities s b)
      go true k l = omega (arith, l)
      go false k l = omega (arith, k, l, ap one_if (equality_without xs σ h a b e))

  -- a definition that goes takes the equalities of its term with it
  pub equalities_definition : (xs : ℕ → Bool) (h : Head) (m c : Tree) → defines xs h ≡ true → (σ : Phrase) (t : Tree) → is_phrase σ t ≡ true → IsIn (Node h m c) t
      → large_equalities s (without xs t) + large_equalities s m ≤ large_equalities s t
  unfolding large_equalities without
  equalities_definition xs h m c d σ t e itself =
      let o = open_phrase σ h m c e in
      subst (λ (v : Bool). large_equalities s (cond v (without xs c) (Node h (without xs m) (without xs c))) + large_equalities s m ≤ counted s h m + (large_equalities s m + large_equalities s c)) (sym d)
      (omega (arith, equalities_without xs o.0.1 c o.3))
  equalities_definition xs h m c d σ t e (in_first {h = k} {a = a} {b = b} i) =
      let o = open_phrase σ k a b e in
      go (defines xs k) (equalities_definition xs h m c d o.0.0 a o.2 i) (equalities_without xs o.0.1 b o.3) (equalities_in s (Node h m c) a i)
    where
      go : (v : Bool) → large_equalities s (without xs a) + large_equalities s m ≤ large_equalities s a → large_equalities s (without xs b) ≤ large_equalities s b
          → counted s h m + (large_equalities s m + large_equalities s c) ≤ large_equalities s a
          → large_equalities s (cond v (without xs b) (Node k (without xs a) (without xs b))) + large_equalities s m ≤ counted s k a + (large_equalities s a + large_equalities s b)
      go true n l j = omega (arith, l, j)
      go false n l j = omega (arith, n, l, ap one_if (equality_without xs σ k a b e))
  equalities_definition xs h m c d σ t e (in_second {h = k} {a = a} {b = b} i) =
      let o = open_phrase σ k a b e in
      go (defines xs k) (equalities_without xs o.0.0 a o.2) (equalities_definition xs h m c d o.0.1 b o.3 i)
    where
      go : (v : Bool) → large_equalities s (without xs a) ≤ large_equalities s a → large_equalities s (without xs b) + large_equalities s m ≤ large_equalities s b
          → large_equalities s (cond v (without xs b) (Node k (without xs a) (without xs b))) + large_equalities s m ≤ counted s k a + (large_equalities s a + large_equalities s b)
      go true n l = omega (arith, l)
      go false n l = omega (arith, n, l, ap one_if (equality_without xs σ k a b e))

-- `unnew`

new_inside : (x : ℕ) (t : Tree) → has_some_new x t ≡ true → (T : ℕ) × (a : Tree) × (b : Tree) × IsIn (Node (New x T) a b) t
unfolding has_some_new
new_inside x Empty e = absurd (both_ways false refl e)
new_inside x (Node h a b) e = go (or_cases (is_new_head h && made_by h a (Variable x)) (has_some_new x a || has_some_new x b) e) (new_inside x a) (new_inside x b)
  where
    top : (h : Head) → (is_new_head h && made_by h a (Variable x)) ≡ true → (T : ℕ) × (c : Tree) × (d : Tree) × IsIn (Node (New x T) c d) (Node h a b)
    top (New y T) e = (T, a, b, subst (λ z. IsIn (Node (New z T) a b) (Node (New y T) a b)) (sym (eqb-true x y e)) itself)
    top h e = absurd (both_ways false refl e)

    go : ((is_new_head h && made_by h a (Variable x)) ≡ true) ⊎ ((has_some_new x a || has_some_new x b) ≡ true)
        → (has_some_new x a ≡ true → (T : ℕ) × (c : Tree) × (d : Tree) × IsIn (Node (New x T) c d) a) → (has_some_new x b ≡ true → (T : ℕ) × (c : Tree) × (d : Tree) × IsIn (Node (New x T) c d) b)
        → (T : ℕ) × (c : Tree) × (d : Tree) × IsIn (Node (New x T) c d) (Node h a b)
    go (inl e) k l = top h e
    go (inr e) k l = elim (or_cases (has_some_new x a) (has_some_new x b) e) [
      | inl f ↦ (let r = k f in (r.0, r.1, r.2, in_first r.3))
      | inr f ↦ (let r = l f in (r.0, r.1, r.2, in_second r.3))
    ]

pub unread_without : (x : ℕ) (xs : ℕ → Bool) (t : Tree) → reads_none (only x) t ≡ true → reads_none (only x) (without xs t) ≡ true
unfolding reads_only without
unread_without x xs Empty e = refl
unread_without x xs (Node h a b) e =
    let p = and_parts (head_reads_only (λ y. not (only x y)) h) _ e in
    let q = and_parts (reads_none (only x) a) _ p.1 in
    go (defines xs h) p.0 (unread_without x xs a q.0) (unread_without x xs b q.1)
  where
    go : (v : Bool) → head_reads_only (λ y. not (only x y)) h ≡ true → reads_none (only x) (without xs a) ≡ true → reads_none (only x) (without xs b) ≡ true → reads_none (only x) (cond v (without xs b) (Node h (without xs a) (without xs b))) ≡ true
    go true n k l = l
    go false n k l = ap₂ ◌&&◌ n (ap₂ ◌&&◌ k l)

pub unnew_lowers : (s : Scene) (x : ℕ) (next : Tree) (cost : Cost) → is_phrase Inputs s.game ≡ true → unnew_row s x ≡ Leads next cost → lowers s next ≡ true
unnew_lowers s x next cost w e =
    let r = unless_leads (is_chosen s x) 1 0 _ next cost e in
    let q = unless_leads (not (is_queried s x)) 2 0 _ next cost r.1 in
    let o = unless_at_leads 2 (first_reading x 0 s.game) _ next cost q.1 in
    let n = new_inside x s.game (and_parts (has_some_new x s.game) (has_news_alone x s.game) r.0).0 in
    let unread : reads_none (only x) (without (only x) s.game) ≡ true = unread_without x (only x) s.game (unlisted_unread x 0 s.game o.0) in
    subst (λ t. lowers s t ≡ true) (leads_same (without (only x) s.game) next Zero cost o.1)
    (lower_by s (without (only x) s.game) (λ y. stays y (x == y) refl unread)
    (inr (equalities_without s (only x) Inputs s.game w, omega (arith, size_definition (only x) (New x n.0) n.1 n.2 (eq-eqb x x refl) s.game n.3))))
  where
    stays : (y : ℕ) (v : Bool) → (x == y) ≡ v → reads_none (only x) (without (only x) s.game) ≡ true → Stays s (without (only x) s.game) y ⊎ (reads_none (only y) (without (only x) s.game) ≡ true)
    stays y true f u = inr (subst (λ z. reads_none (only z) (without (only x) s.game) ≡ true) (eqb-true x y f) u)
    stays y false f u = inl (sites_without x y f Inputs s.game w)
