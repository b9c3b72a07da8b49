-- Where places of terms are in a tree that stands somewhere in a game, and what stays where there is none.
use Rattle.std.proofs.Common.{◌≡◌, ℕ, ◌+◌, ◌-◌, ◌<◌, ◌&&◌, Bool, true, false, cond, Some, refl, sym, ap, ap₂, subst, ◌∙◌, nat_lt, le-ltb, lt-ltb, ltb-true, arith}
use Rattle.std.proofs.lemmas.Bool.{both_ways, and_parts}
use Rattle.cv_syntax_trees.specs.declared.head.Head.{Head}
use Rattle.cv_syntax_trees.specs.Head.{weight}
use Rattle.cv_syntax_trees.specs.Tree.{Tree, Empty, Node, first_place, second_place, size, subtree}
use Rattle.cv_meaning.specs.Still.{head_is_still, is_still}
use Rattle.cv_scope_rules.specs.Phrases.{Inputs, Phrase}
use Rattle.cv_scene.specs.Scenes.{or_empty, part_at}
use Rattle.cv_steps.specs.Rewriting.{has_term_at, is_term, parts_of}
use Rattle.cv_steps.proofs.Places.{bare, is_bare}
use Rattle.cv_costs.specs.wording.Changing.{AreTermsAt, KeepsStill, changed_at, is_changed}

-- the parts of children

first_there : (σ : Phrase) (h : Head) (a b : Tree) (q : ℕ) → q < size a → has_term_at σ (Node h a b) (weight h + q) ≡ has_term_at (parts_of σ h).0 a q
unfolding has_term_at
first_there σ h a b q l =
    let m : weight h + q - weight h ≡ q = omega arith in
    ap₂ (λ v w. cond v (is_term σ) (cond w (has_term_at (parts_of σ h).0 a (weight h + q - weight h)) (has_term_at (parts_of σ h).1 b (weight h + q - (weight h + size a)))))
    (le-ltb (weight h + q) (weight h) (omega arith)) (lt-ltb (weight h + q) (weight h + size a) (omega arith))
    ∙ ap (has_term_at (parts_of σ h).0 a) m

second_there : (σ : Phrase) (h : Head) (a b : Tree) (q : ℕ) → has_term_at σ (Node h a b) (weight h + size a + q) ≡ has_term_at (parts_of σ h).1 b q
unfolding has_term_at
second_there σ h a b q =
    let m : weight h + size a + q - (weight h + size a) ≡ q = omega arith in
    ap₂ (λ v w. cond v (is_term σ) (cond w (has_term_at (parts_of σ h).0 a (weight h + size a + q - weight h)) (has_term_at (parts_of σ h).1 b (weight h + size a + q - (weight h + size a)))))
    (le-ltb (weight h + size a + q) (weight h) (omega arith)) (le-ltb (weight h + size a + q) (weight h + size a) (omega arith))
    ∙ ap (has_term_at (parts_of σ h).1 b) m

first_part : (h : Head) (a b : Tree) (q : ℕ) → q < size a → part_at (Node h a b) (weight h + q) ≡ part_at a q
unfolding subtree
first_part h a b q l =
    let m : weight h + q - weight h ≡ q = omega arith in
    ap₂ (λ v w. or_empty (cond v (Some (Node h a b)) (cond w (subtree a (weight h + q - weight h)) (subtree b (weight h + q - (weight h + size a))))))
    (le-ltb (weight h + q) (weight h) (omega arith)) (lt-ltb (weight h + q) (weight h + size a) (omega arith))
    ∙ ap (part_at a) m

second_part : (h : Head) (a b : Tree) (q : ℕ) → part_at (Node h a b) (weight h + size a + q) ≡ part_at b q
unfolding subtree
second_part h a b q =
    let m : weight h + size a + q - (weight h + size a) ≡ q = omega arith in
    ap₂ (λ v w. or_empty (cond v (Some (Node h a b)) (cond w (subtree a (weight h + size a + q - weight h)) (subtree b (weight h + size a + q - (weight h + size a))))))
    (le-ltb (weight h + size a + q) (weight h) (omega arith)) (le-ltb (weight h + size a + q) (weight h + size a) (omega arith))
    ∙ ap (part_at b) m

here_part : (h : Head) (a b : Tree) → nat_lt 0 (weight h) ≡ true → part_at (Node h a b) 0 ≡ Node h a b
unfolding subtree
here_part h a b e = ap (λ v. or_empty (cond v (Some (Node h a b)) (cond (nat_lt 0 (weight h + size a)) (subtree a (0 - weight h)) (subtree b (0 - (weight h + size a)))))) e

here_term : (σ : Phrase) (h : Head) (a b : Tree) → nat_lt 0 (weight h) ≡ true → has_term_at σ (Node h a b) 0 ≡ is_term σ
unfolding has_term_at
here_term σ h a b e = ap (λ v. cond v (is_term σ) (cond (nat_lt 0 (weight h + size a)) (has_term_at (parts_of σ h).0 a (0 - weight h)) (has_term_at (parts_of σ h).1 b (0 - (weight h + size a))))) e

-- below a node that has a place there is one
below_size : (h : Head) (a b : Tree) → nat_lt 0 (weight h) ≡ true → 0 < size (Node h a b)
unfolding size
below_size h a b e = let l = ltb-true 0 (weight h) e in omega arith

module _ (places : ℕ → Bool) (change : Tree → Tree) (game : Tree) where
  -- each of the places that is in the tree, which stands at a place of the game, is one of a term there
  pub record IsAt (σ : Phrase) (p : ℕ) (t : Tree) (q : ℕ) : Type 0 where
    pub term : has_term_at σ t q ≡ true
    pub part : part_at game (p + q) ≡ part_at t q

  abbrev pub AreAt : Phrase → ℕ → Tree → Type 0
  AreAt σ p t = (q : ℕ) → places (p + q) ≡ true → q < size t → IsAt σ p t q

  pub at_root : AreTermsAt places game → AreAt Inputs 0 game
  at_root k q e l =
      let z : 0 + q ≡ q = omega arith in
      record { term = k q (subst (λ n. places n ≡ true) z e) l; part = ap (part_at game) z }

  pub at_first : (σ : Phrase) (h : Head) (a b : Tree) (p : ℕ) → AreAt σ p (Node h a b) → AreAt (parts_of σ h).0 (first_place p h) a
  unfolding size
  at_first σ h a b p k q e l =
      let z : p + (weight h + q) ≡ p + weight h + q = omega arith in
      let r : IsAt σ p (Node h a b) (weight h + q) = k (weight h + q) (subst (λ n. places n ≡ true) (sym z) e) (omega arith) in
      record { term = sym (first_there σ h a b q l) ∙ r.term; part = ap (part_at game) (sym z) ∙ (r.part ∙ first_part h a b q l) }

  pub at_second : (σ : Phrase) (h : Head) (a b : Tree) (p : ℕ) → AreAt σ p (Node h a b) → AreAt (parts_of σ h).1 (second_place p h a) b
  unfolding size
  at_second σ h a b p k q e l =
      let z : p + (weight h + size a + q) ≡ p + weight h + size a + q = omega arith in
      let r : IsAt σ p (Node h a b) (weight h + size a + q) = k (weight h + size a + q) (subst (λ n. places n ≡ true) (sym z) e) (omega arith) in
      record { term = sym (second_there σ h a b q) ∙ r.term; part = ap (part_at game) (sym z) ∙ (r.part ∙ second_part h a b q) }

  -- of a node that is changed
  pub record IsHere (σ : Phrase) (p : ℕ) (h : Head) (a b : Tree) : Type 0 where
    pub place : places p ≡ true
    pub term : is_term σ ≡ true
    pub part : part_at game p ≡ Node h a b

  pub at_node : (σ : Phrase) (p : ℕ) (h : Head) (a b : Tree) → AreAt σ p (Node h a b) → is_changed places p h ≡ true → IsHere σ p h a b
  at_node σ p h a b k e =
      let r = and_parts (nat_lt 0 (weight h)) (places p) e in
      let z : p + 0 ≡ p = omega arith in
      let q : IsAt σ p (Node h a b) 0 = k 0 (subst (λ n. places n ≡ true) (sym z) r.1) (below_size h a b r.0) in
      record { place = r.1; term = sym (here_term σ h a b r.0) ∙ q.term; part = ap (part_at game) (sym z) ∙ (q.part ∙ here_part h a b r.0) }

  -- what is no term stays but for what is in it
  pub kept_node : (σ : Phrase) (p : ℕ) (h : Head) (a b : Tree) → is_term σ ≡ false → AreAt σ p (Node h a b) → changed_at places change p (Node h a b) ≡ Node h (changed_at places change (first_place p h) a) (changed_at places change (second_place p h a) b)
  unfolding changed_at
  kept_node σ p h a b n k = go (is_changed places p h) refl
    where
      go : (v : Bool) → is_changed places p h ≡ v → cond v (change (Node h a b)) (Node h (changed_at places change (first_place p h) a) (changed_at places change (second_place p h a) b)) ≡ Node h (changed_at places change (first_place p h) a) (changed_at places change (second_place p h a) b)
      go true e = absurd (both_ways (is_term σ) n (at_node σ p h a b k e).term)
      go false e = refl

  -- where no term is, nothing changes
  pub kept_bare : (σ : Phrase) (p : ℕ) (t : Tree) → is_bare σ ≡ true → AreAt σ p t → changed_at places change p t ≡ t
  unfolding changed_at size
  kept_bare σ p t n k = none p t (λ q e l. bare σ t q n (k q e l).term)
    where
      none : (p : ℕ) (t : Tree) → ((q : ℕ) → places (p + q) ≡ true → q < size t → ⊥) → changed_at places change p t ≡ t
      none p Empty k = refl
      none p (Node h a b) k =
          go (is_changed places p h) refl
          (none (first_place p h) a (λ q e l. k (weight h + q) (subst (λ n. places n ≡ true) (let z : p + weight h + q ≡ p + (weight h + q) = omega arith in z) e) (omega arith)))
          (none (second_place p h a) b (λ q e l. k (weight h + size a + q) (subst (λ n. places n ≡ true) (let z : p + weight h + size a + q ≡ p + (weight h + size a + q) = omega arith in z) e) (omega arith)))
        where
          go : (v : Bool) → is_changed places p h ≡ v → changed_at places change (first_place p h) a ≡ a → changed_at places change (second_place p h a) b ≡ b
              → cond v (change (Node h a b)) (Node h (changed_at places change (first_place p h) a) (changed_at places change (second_place p h a) b)) ≡ Node h a b
          go true e x y =
              let r = and_parts (nat_lt 0 (weight h)) (places p) e in
              absurd (k 0 (subst (λ n. places n ≡ true) (let z : p ≡ p + 0 = omega arith in z) r.1) (below_size h a b r.0))
          go false e x y = ap₂ (Node h) x y

  -- what has no construct with a body has none
  pub still_changed : KeepsStill change → (p : ℕ) (t : Tree) → is_still t ≡ true → is_still (changed_at places change p t) ≡ true
  unfolding changed_at
  still_changed k p Empty e = refl
  still_changed k p (Node h a b) e =
      let r = and_parts (head_is_still h) _ e in
      let z = and_parts (is_still a) _ r.1 in
      go (is_changed places p h) (still_changed k (first_place p h) a z.0) (still_changed k (second_place p h a) b z.1) r.0
    where
      go : (v : Bool) → is_still (changed_at places change (first_place p h) a) ≡ true → is_still (changed_at places change (second_place p h a) b) ≡ true → head_is_still h ≡ true
          → is_still (cond v (change (Node h a b)) (Node h (changed_at places change (first_place p h) a) (changed_at places change (second_place p h a) b))) ≡ true
      go true x y n = k (Node h a b) e
      go false x y n = ap₂ ◌&&◌ n (ap₂ ◌&&◌ x y)
