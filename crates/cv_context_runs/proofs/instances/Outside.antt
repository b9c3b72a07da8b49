-- Terms read plain names alone outside their sites, where they use no other there.
use Rattle.std.proofs.Common.{◌≡◌, ℕ, ◌+◌, ◌≤◌, Bool, true, false, cond, ◌&&◌, ◌||◌, ◌==◌, [], Option, Some, None, is_some, refl, sym, ap, ap₂, ◌∙◌, eq-eqb, arith}
use Rattle.std.proofs.lemmas.Bool.{both_ways, and_parts, or_parts}
use Rattle.cv_syntax_trees.specs.declared.head.Head.{Head}
use Rattle.cv_syntax_trees.specs.declared.head.Head.TheVariants.{And, Apply, Cons, Eq, Leaf, Name, No, Not, Or, Read, Yes}
use Rattle.cv_syntax_trees.specs.Tree.{Tree, Empty, Node, first_place, head_reads_only, second_place}
use Rattle.cv_syntax_trees.specs.sites.Sites.{first_of}
use Rattle.cv_scope_rules.specs.Context.{first_position, second_position}
use Rattle.cv_scope_rules.specs.Phrases.{Indices, Message, Nil, Term, Terms, is_phrase}
use Rattle.cv_scope_rules.specs.declared.position.Position.{Position}
use Rattle.cv_scope_rules.specs.declared.position.Position.TheVariants.{Anywhere}
use Rattle.cv_scene.specs.Scenes.{head_names, head_reads, names}
use Rattle.cv_scene.specs.Instances.{Call, Matching, call_at}
use Rattle.cv_scene.specs.Refusals.{first_use, uses}
use Rattle.cv_scene.specs.Sites.{is_guard}
use Rattle.cv_scene.specs.Apt.{reads_outside}
use Rattle.cv_match_laws.specs.instances.Uses.{uses_outside}
use Rattle.cv_match_laws.proofs.instances.Uses.{uses_apart}

-- what a tree doesn't use outside sites it doesn't read there

pub head_plain : (on : ℕ → Bool) (h : Head) → ((x : ℕ) → on x ≡ false → cond {A = ℕ} (head_reads x h) 1 0 ≡ 0) → head_reads_only on h ≡ true
head_plain on (Leaf x) f = go (on x) refl
  where
    go : (b : Bool) → on x ≡ b → b ≡ true
    go true e = refl
    go false e = absurd (let z : cond {A = ℕ} (x == x) 1 0 ≡ 0 = f x e in let w : cond {A = ℕ} (x == x) 1 0 ≡ 1 = ap (λ b. cond {A = ℕ} b 1 0) (eq-eqb x x refl) in omega arith)
head_plain on (Read x) f = go (on x) refl
  where
    go : (b : Bool) → on x ≡ b → b ≡ true
    go true e = refl
    go false e = absurd (let z : cond {A = ℕ} (x == x) 1 0 ≡ 0 = f x e in let w : cond {A = ℕ} (x == x) 1 0 ≡ 1 = ap (λ b. cond {A = ℕ} b 1 0) (eq-eqb x x refl) in omega arith)
head_plain on h f = refl

module _ (M : Matching) where
  pub outside_less : (w : Position) (x : ℕ) (t : Tree) → uses_outside M w x t ≤ uses x t
  outside_less w x t = let z = uses_apart M w [] 0 x t in omega arith

  pub plain_outside : (on : ℕ → Bool) (w : Position) (t : Tree) → ((x : ℕ) → on x ≡ false → uses_outside M w x t ≡ 0) → reads_outside M on t ≡ true
  unfolding reads_outside uses_outside
  plain_outside on w Empty f = refl
  plain_outside on w (Node h a b) f =
      go (call_at M (Node h a b)) (is_guard w) f (λ g. plain_outside on (first_position w h) a g) (λ g. plain_outside on (second_position w h) b g) (λ x. outside_less (first_position w h) x a)
    where
      go : (o : Option Call) (z : Bool)
          → ((x : ℕ) → on x ≡ false → (elim o as (λ _. ℕ) [ Some c ↦ 0 | None ↦ cond (head_reads x h) 1 0 + (cond z (uses x a) (uses_outside M (first_position w h) x a) + uses_outside M (second_position w h) x b) ]) ≡ 0)
          → (((x : ℕ) → on x ≡ false → uses_outside M (first_position w h) x a ≡ 0) → reads_outside M on a ≡ true)
          → (((x : ℕ) → on x ≡ false → uses_outside M (second_position w h) x b ≡ 0) → reads_outside M on b ≡ true)
          → ((x : ℕ) → uses_outside M (first_position w h) x a ≤ uses x a)
          → (is_some o || (head_reads_only on h && (reads_outside M on a && reads_outside M on b))) ≡ true
      go (Some c) z f i j l = refl
      go None z f i j l =
          ap₂ ◌&&◌ (head_plain on h (λ x e. first_zero (cond (head_reads x h) 1 0) (cond z (uses x a) (uses_outside M (first_position w h) x a) + uses_outside M (second_position w h) x b) (f x e)))
          (ap₂ ◌&&◌ (i (λ x e. lower z (uses x a) (uses_outside M (first_position w h) x a) (l x) (first_zero (cond z (uses x a) (uses_outside M (first_position w h) x a)) (uses_outside M (second_position w h) x b) (second_zero (cond (head_reads x h) 1 0) (cond z (uses x a) (uses_outside M (first_position w h) x a) + uses_outside M (second_position w h) x b) (f x e)))))
          (j (λ x e. second_zero (cond z (uses x a) (uses_outside M (first_position w h) x a)) (uses_outside M (second_position w h) x b) (second_zero (cond (head_reads x h) 1 0) (cond z (uses x a) (uses_outside M (first_position w h) x a) + uses_outside M (second_position w h) x b) (f x e)))))
        where
          first_zero : (m n : ℕ) → m + n ≡ 0 → m ≡ 0
          first_zero m n e = omega arith

          second_zero : (m n : ℕ) → m + n ≡ 0 → n ≡ 0
          second_zero m n e = omega arith

          lower : (z : Bool) (m n : ℕ) → n ≤ m → cond z m n ≡ 0 → n ≡ 0
          lower true m n l e = omega arith
          lower false m n l e = e

  -- the key in terms

  abbrev IsFree : Tree → Type 0
  IsFree t = (p : ℕ) → first_use M Anywhere p t ≡ None → uses_outside M Anywhere M.key t ≡ 0

  free_empty : IsFree Empty
  unfolding uses_outside
  free_empty p e = refl

  free_node : (h : Head) (a b : Tree) → first_position Anywhere h ≡ Anywhere → second_position Anywhere h ≡ Anywhere → IsFree a → IsFree b → IsFree (Node h a b)
  unfolding first_use uses_outside
  free_node h a b e f i j p n = go (call_at M (Node h a b)) (head_reads M.key h) n
    where
      none_some : (p : ℕ) → ◌≡◌ {A = Option ℕ} (Some p) None → ⊥
      none_some p e = cc

      both : (o u : Option ℕ) → first_of o u ≡ None → (o ≡ None) × (u ≡ None)
      both None u e = (refl, e)
      both (Some x) u e = absurd (none_some x e)

      go : (o : Option Call) (z : Bool)
          → (elim o as (λ _. Option ℕ) [ Some c ↦ None | None ↦ cond z (Some p) (first_of (first_use M (first_position Anywhere h) (first_place p h) a) (first_use M (second_position Anywhere h) (second_place p h a) b)) ]) ≡ None
          → (elim o as (λ _. ℕ) [ Some c ↦ 0 | None ↦ cond z 1 0 + (uses_outside M (first_position Anywhere h) M.key a + uses_outside M (second_position Anywhere h) M.key b) ]) ≡ 0
      go (Some c) z n = refl
      go None true n = absurd (none_some p n)
      go None false n =
          let q = both (first_use M (first_position Anywhere h) (first_place p h) a) (first_use M (second_position Anywhere h) (second_place p h a) b) n in
          let k = ap (λ w. uses_outside M w M.key a) e ∙ i (first_place p h) (ap (λ w. first_use M w (first_place p h) a) (sym e) ∙ q.0) in
          let l = ap (λ w. uses_outside M w M.key b) f ∙ j (second_place p h a) (ap (λ w. first_use M w (second_place p h a) b) (sym f) ∙ q.1) in
          omega arith

  free_nil : (t : Tree) → is_phrase Nil t ≡ true → IsFree t
  unfolding is_phrase
  free_nil Empty e = free_empty
  free_nil (Node h a b) e = absurd (both_ways false refl e)

  free_indices : (t : Tree) → is_phrase Indices t ≡ true → IsFree t
  unfolding is_phrase
  free_indices Empty e = free_empty
  free_indices (Node (Name x) a b) e = let p = and_parts (is_phrase Nil a) _ e in free_node (Name x) a b refl refl (free_nil a p.0) (free_indices b p.1)
  free_indices (Node h a b) e = absurd (both_ways false refl e)

  mutual
    unfolding is_phrase

    pub free_term : (t : Tree) → is_phrase Term t ≡ true → IsFree t
    free_term (Node (Leaf x) a b) e = let p = and_parts (is_phrase Nil a) _ e in free_node (Leaf x) a b refl refl (free_nil a p.0) (free_nil b p.1)
    free_term (Node (Read x) a b) e = let p = and_parts (is_phrase Terms a) _ e in free_node (Read x) a b refl refl (free_terms a p.0) (free_nil b p.1)
    free_term (Node (Apply g) a b) e = let p = and_parts (is_phrase Terms a) _ e in free_node (Apply g) a b refl refl (free_terms a p.0) (free_nil b p.1)
    free_term (Node Eq a b) e = let p = and_parts (is_phrase Term a) _ e in free_node Eq a b refl refl (free_term a p.0) (free_term b p.1)
    free_term (Node And a b) e = let p = and_parts (is_phrase Term a) _ e in free_node And a b refl refl (free_term a p.0) (free_term b p.1)
    free_term (Node Or a b) e = let p = and_parts (is_phrase Term a) _ e in free_node Or a b refl refl (free_term a p.0) (free_term b p.1)
    free_term (Node Not a b) e = let p = and_parts (is_phrase Term a) _ e in free_node Not a b refl refl (free_term a p.0) (free_nil b p.1)
    free_term (Node Yes a b) e = let p = and_parts (is_phrase Nil a) _ e in free_node Yes a b refl refl (free_nil a p.0) (free_nil b p.1)
    free_term (Node No a b) e = let p = and_parts (is_phrase Nil a) _ e in free_node No a b refl refl (free_nil a p.0) (free_nil b p.1)
    free_term t e = absurd (both_ways false refl e)

    pub free_terms : (t : Tree) → is_phrase Terms t ≡ true → IsFree t
    free_terms Empty e = free_empty
    free_terms (Node Cons a b) e = let p = and_parts (is_phrase Term a) _ e in free_node Cons a b refl refl (free_term a p.0) (free_terms b p.1)
    free_terms t e = absurd (both_ways false refl e)

  pub free_message : (t : Tree) → is_phrase Message t ≡ true → IsFree t
  unfolding is_phrase
  free_message (Node Cons a b) e = let p = and_parts (is_phrase Indices a) _ e in free_node Cons a b refl refl (free_indices a p.0) (free_terms b p.1)
  free_message t e = absurd (both_ways false refl e)

-- a name that a tree hasn't is not used there

head_unnamed : (x : ℕ) (h : Head) → head_names x h ≡ false → cond {A = ℕ} (head_reads x h) 1 0 ≡ 0
head_unnamed x (Leaf y) e = ap (λ b. cond {A = ℕ} b 1 0) e
head_unnamed x (Read y) e = ap (λ b. cond {A = ℕ} b 1 0) e
head_unnamed x h e = refl

pub unnamed_unused : (x : ℕ) (t : Tree) → names x t ≡ false → uses x t ≡ 0
unfolding names uses
unnamed_unused x Empty e = refl
unnamed_unused x (Node h a b) e =
    let p = or_parts (head_names x h) _ e in
    let q = or_parts (names x a) (names x b) p.1 in
    let i = head_unnamed x h p.0 in
    let j = unnamed_unused x a q.0 in
    let k = unnamed_unused x b q.1 in
    omega arith
