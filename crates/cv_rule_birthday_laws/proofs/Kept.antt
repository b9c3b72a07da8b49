-- What the next game keeps of the game: its sorts and its values, and that it binds no index.
use Rattle.std.proofs.Common.{◌≡◌, ℕ, Bool, true, false, cond, List, [], ◌∷◌, ◌⊎◌, inl, inr, Some, is_some, refl, sym, ap, subst, ◌∙◌}
use Rattle.std.proofs.lemmas.Bool.{and_parts, both_ways}
use Rattle.std.specs.List.{AllByRecursion}
use Rattle.cv_syntax_trees.specs.declared.head.Head.{Head}
use Rattle.cv_syntax_trees.specs.declared.head.Head.TheVariants.{And, Branch, Eq, In, Read, Yes}
use Rattle.cv_syntax_trees.specs.Tree.{Tree, Empty, Node, first, first_place, second_place}
use Rattle.cv_scene.specs.lines.Inferences.{equations_of}
use Rattle.cv_syntax_trees.specs.sites.Sites.{index_here}
use Rattle.cv_scope_rules.specs.Context.{items}
use Rattle.cv_scope_rules.specs.Phrases.{Phrase, Arm, Binders, Body, Guards, Inputs, Nil, Pattern, Term, both_are, is_phrase, parts}
use Rattle.cv_steps.specs.Rewriting.{by_parts, is_term, parts_of}
use Rattle.cv_steps.proofs.Flat.{Opened, is_of_terms, open_phrase}
use Rattle.cv_steps.proofs.Places.{bare, is_bare}
use Rattle.cv_steps_laws.proofs.Indices.{Lacks, lacking_empty, lacking_node, lacking_parts}
use Rattle.cv_steps_laws.proofs.Unletted.{IsKept, has_names}
use Rattle.cv_costs.specs.wording.Changing.{changed_at, is_changed}
use Rattle.cv_costs.proofs.wording.Places.{AreAt, at_first, at_second, kept_bare, kept_node}
use Rattle.cv_rule_birthday.specs.Comparing.{compared, same_indices}

-- phrases

not_term : (σ : Phrase) → is_of_terms σ ≡ false → is_term σ ≡ false
not_term Term e = absurd (both_ways true e refl)
not_term σ e = refl

names_bare : (σ : Phrase) (h : Head) (q : Phrase × Phrase) → parts σ h ≡ Some q → has_names h ≡ true → is_bare q.0 ≡ true
names_bare Inputs (In c) q e f = let i : (let p : Phrase × Phrase = (Pattern, Body) in p) ≡ q = cc in ap (λ (p : Phrase × Phrase). is_bare p.0) (sym i)
names_bare Arm Branch q e f = let i : (let p : Phrase × Phrase = (Binders, Guards) in p) ≡ q = cc in ap (λ (p : Phrase × Phrase). is_bare p.0) (sym i)
names_bare σ (In c) q e f = absurd (cc)
names_bare σ Branch q e f = absurd (cc)
names_bare σ h q e f = absurd (both_ways false refl f)

-- what may be rewritten goes by the table, but in reads
parts_through : (σ : Phrase) (h : Head) (q : Phrase × Phrase) → parts σ h ≡ Some q → (parts_of σ h ≡ q) ⊎ (((parts_of σ h).0 ≡ Nil) × ((parts_of σ h).1 ≡ Nil))
parts_through σ (Read y) q e = inr (refl, refl)
parts_through σ h q e = inl (ap (by_parts h) e)

module _ (places : ℕ → Bool) (change : Tree → Tree) (game : Tree) where
  -- no place is in a tree that is a phrase with no term
  at_none : (τ ρ : Phrase) (p : ℕ) (t : Tree) → τ ≡ Nil → AreAt places change game τ p t → AreAt places change game ρ p t
  at_none τ ρ p t e k q i l = absurd (bare τ t q (ap is_bare e) (k q i l).term)

  part_first : (σ : Phrase) (h : Head) (a b : Tree) (p : ℕ) (q : Phrase × Phrase) → parts σ h ≡ Some q → AreAt places change game σ p (Node h a b) → AreAt places change game q.0 (first_place p h) a
  part_first σ h a b p q e k = go (parts_through σ h q e)
    where
      go : (parts_of σ h ≡ q) ⊎ (((parts_of σ h).0 ≡ Nil) × ((parts_of σ h).1 ≡ Nil)) → AreAt places change game q.0 (first_place p h) a
      go (inl i) = subst (λ (r : Phrase × Phrase). AreAt places change game r.0 (first_place p h) a) i (at_first places change game σ h a b p k)
      go (inr i) = at_none (parts_of σ h).0 q.0 (first_place p h) a i.0 (at_first places change game σ h a b p k)

  part_second : (σ : Phrase) (h : Head) (a b : Tree) (p : ℕ) (q : Phrase × Phrase) → parts σ h ≡ Some q → AreAt places change game σ p (Node h a b) → AreAt places change game q.1 (second_place p h a) b
  part_second σ h a b p q e k = go (parts_through σ h q e)
    where
      go : (parts_of σ h ≡ q) ⊎ (((parts_of σ h).0 ≡ Nil) × ((parts_of σ h).1 ≡ Nil)) → AreAt places change game q.1 (second_place p h a) b
      go (inl i) = subst (λ (r : Phrase × Phrase). AreAt places change game r.1 (second_place p h a) b) i (at_second places change game σ h a b p k)
      go (inr i) = at_none (parts_of σ h).1 q.1 (second_place p h a) b i.1 (at_second places change game σ h a b p k)

  -- a fact of trees that terms have, and that nodes have of their children
  module _ (P : Tree → Type 0) (kept : IsKept P) where
    pub changed_kept : (σ : Phrase) (p : ℕ) (t : Tree) → is_phrase σ t ≡ true → is_phrase σ (changed_at places change p t) ≡ true → AreAt places change game σ p t → P t → P (changed_at places change p t)
    unfolding changed_at is_phrase
    changed_kept σ p Empty w v k q = q
    changed_kept σ p (Node h a b) w v k q =
        let o = open_phrase σ h a b w in
        let r = kept.children h a b q in
        go (is_of_terms σ) refl o
        (λ f. changed_kept o.0.0 (first_place p h) a o.2 f (part_first σ h a b p o.0 o.1 k) r.0) (λ f. changed_kept o.0.1 (second_place p h a) b o.3 f (part_second σ h a b p o.0 o.1 k) r.1)
      where
        c : Tree
        c = changed_at places change (first_place p h) a

        d : Tree
        d = changed_at places change (second_place p h a) b

        go : (u : Bool) → is_of_terms σ ≡ u → (o : Opened σ h a b) → (is_phrase o.0.0 c ≡ true → P c) → (is_phrase o.0.1 d ≡ true → P d) → P (changed_at places change p (Node h a b))
        go true i o x y = kept.terms σ _ i v
        go false i o x y =
            let e : changed_at places change p (Node h a b) ≡ Node h c d = kept_node places change game σ p h a b (not_term σ i) k in
            let f : is_phrase σ (Node h c d) ≡ true = ap (is_phrase σ) (sym e) ∙ v in
            let r = and_parts (is_phrase o.0.0 c) _ (ap (λ s. both_are s (λ τ. is_phrase τ c) (λ ρ. is_phrase ρ d)) (sym o.1) ∙ f) in
            subst P (sym e) (kept.node h a b c d (λ n. sym (kept_bare places change game o.0.0 (first_place p h) a (names_bare σ h o.0 o.1 n) (part_first σ h a b p o.0 o.1 k))) q (x r.0) (y r.1))

-- no index is bound

module _ (i : ℕ) where
  lacks_items : (a : Tree) → Lacks i a → AllByRecursion (Lacks i) (items a)
  lacks_items Empty e = tt
  lacks_items (Node h a b) e = let q = lacking_parts i h a b e in (q.1, lacks_items b q.2)

  lacks_equations : (ms ns : List Tree) → AllByRecursion (Lacks i) ms → AllByRecursion (Lacks i) ns → Lacks i (equations_of ms ns)
  lacks_equations [] ns h k = lacking_empty i
  lacks_equations (m ∷ []) [] h k = lacking_empty i
  lacks_equations (m ∷ []) (n ∷ []) h k = lacking_node i Eq m n refl h.0 k.0
  lacks_equations (m ∷ []) (n ∷ (o ∷ ns)) h k = lacking_node i And (Node Eq m n) Empty refl (lacking_node i Eq m n refl h.0 k.0) (lacking_empty i)
  lacks_equations (m ∷ (l ∷ ms)) [] h k = lacking_empty i
  lacks_equations (m ∷ (l ∷ ms)) (n ∷ ns) h k = lacking_node i And (Node Eq m n) (equations_of (l ∷ ms) ns) refl (lacking_node i Eq m n refl h.0 k.0) (lacks_equations (l ∷ ms) ns h.1 k.1)

  lacks_indices : (ms ns : List Tree) → AllByRecursion (Lacks i) ms → AllByRecursion (Lacks i) ns → Lacks i (same_indices ms ns)
  lacks_indices [] ns h k = lacking_node i Yes Empty Empty refl (lacking_empty i) (lacking_empty i)
  lacks_indices (m ∷ ms) ns h k = lacks_equations (m ∷ ms) ns h k

  lacks_first : (t : Tree) → Lacks i t → Lacks i (first t)
  lacks_first Empty e = lacking_empty i
  lacks_first (Node h a b) e = (lacking_parts i h a b e).1

  pub lacks_compared : (t : Tree) → Lacks i t → Lacks i (compared t)
  lacks_compared (Node Eq l r) e =
      let q = lacking_parts i Eq l r e in
      lacks_indices (items (first l)) (items (first r)) (lacks_items (first l) (lacks_first l q.1)) (lacks_items (first r) (lacks_first r q.2))
  lacks_compared t e = e

  pub lacks_changed : (places : ℕ → Bool) (change : Tree → Tree) → ((t : Tree) → Lacks i t → Lacks i (change t)) → (p : ℕ) (t : Tree) → Lacks i t → Lacks i (changed_at places change p t)
  unfolding changed_at
  lacks_changed places change k p Empty e = lacking_empty i
  lacks_changed places change k p (Node h a b) e =
      let q = lacking_parts i h a b e in
      go (is_changed places p h) q.0 (lacks_changed places change k (first_place p h) a q.1) (lacks_changed places change k (second_place p h a) b q.2)
    where
      go : (v : Bool) → is_some (index_here i h) ≡ false → Lacks i (changed_at places change (first_place p h) a) → Lacks i (changed_at places change (second_place p h a) b)
          → Lacks i (cond v (change (Node h a b)) (Node h (changed_at places change (first_place p h) a) (changed_at places change (second_place p h a) b)))
      go true n x y = k (Node h a b) e
      go false n x y = lacking_node i h (changed_at places change (first_place p h) a) (changed_at places change (second_place p h a) b) n x y
