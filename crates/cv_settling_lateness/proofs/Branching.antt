-- A variable that comes later than the body of a branch, told by the `find`.
use Rattle.std.proofs.Common.{◌≡◌, ℕ, ◌+◌, ◌-◌, ◌<◌, ◌≤◌, Bool, true, false, ◌&&◌, not, nat_lt, Option, Some, None, inl, inr, refl, sym, ap, ap₂, subst, ◌∙◌, arith, le-ltb, lt-ltb}
use Rattle.std.proofs.lemmas.Bool.{and_from, and_parts, both_ways}
use Rattle.cv_syntax_trees.specs.declared.head.Head.{Head}
use Rattle.cv_syntax_trees.specs.declared.head.Head.TheVariants.{Branch, Cons, Find}
use Rattle.cv_syntax_trees.specs.Head.{weight}
use Rattle.cv_syntax_trees.specs.Tree.{Tree, Empty, Node, size, subtree}
use Rattle.cv_syntax.proofs.Walking.{weight_le}
use Rattle.cv_path.specs.declared.place.Lies.{Lies}
use Rattle.cv_path.specs.declared.place.Lies.TheVariants.{Behind, Here, Within}
use Rattle.cv_path.specs.Places.{LiesAt}
use Rattle.cv_path.proofs.Bounds.{lies_somewhere}
use Rattle.cv_path.proofs.Going.{choice_behind, choice_here, choice_within, less_behind, less_within, subtree_behind, subtree_empty, subtree_here, subtree_within}
use Rattle.cv_scope_rules.specs.Made.{is_bound}
use Rattle.cv_scope_rules.specs.Phrases.{Phrase, Arm, Cells, Guards, Nil, both_are, is_phrase, parts}
use Rattle.cv_scene.specs.Late.{guards, is_defined_above, is_free_beside, is_late}
use Rattle.cv_settling_lateness.specs.Bodies.{IsItem, LateAtABody, has_parts, has_whole_branches}

none_some : (t : Tree) → ◌≡◌ {A = Option Tree} None (Some t) → ⊥
none_some t e = cc

same_tree_of : (t u : Tree) → Some t ≡ Some u → t ≡ u
same_tree_of t u e = ap (λ o. if_some o t) e
  where
    if_some : Option Tree → Tree → Tree
    if_some None d = d
    if_some (Some s) d = s

-- a subtree takes places of the tree

subtree_fits : (t : Tree) (p : ℕ) (u : Tree) → subtree t p ≡ Some u → p + size u ≤ size t
unfolding size
subtree_fits Empty p u e = absurd (none_some u (sym (subtree_empty Empty p refl) ∙ e))
subtree_fits (Node h a b) p u e = go (lies_somewhere h a p) (subtree_fits a) (subtree_fits b)
  where
    go : (l : Lies) × LiesAt h a p l → ((q : ℕ) (u : Tree) → subtree a q ≡ Some u → q + size u ≤ size a) → ((q : ℕ) (u : Tree) → subtree b q ≡ Some u → q + size u ≤ size b) → p + size u ≤ size (Node h a b)
    go (Here, l) f g =
        let s : size (Node h a b) ≡ size u = ap size (same_tree_of (Node h a b) u (sym (subtree_here (Node h a b) h a b p 0 refl l) ∙ e)) in
        let w = weight_le h in
        omega (arith, l, s, w)
    go (Within q, l) f g = let m = f q u (sym (subtree_within (Node h a b) h a b p q refl l) ∙ e) in omega (arith, l.0, m)
    go (Behind q, l) f g = let m = g q u (sym (subtree_behind (Node h a b) h a b p q refl l) ∙ e) in omega (arith, l, m)

module _ (x : ℕ) where
  -- at a node, by where the place lies

  module _ (h : Head) (a b : Tree) where
    abbrev within : ℕ → Bool
    within n = is_free_beside x h b && is_late x a n

    abbrev behind : ℕ → Bool
    behind n = not (is_defined_above x h a b n) && (is_free_beside x h a && is_late x b n)

    pub at_node : (p : ℕ) → LiesAt h a p Here → is_late x (Node h a b) p ≡ true
    unfolding is_late
    at_node p l = choice_here h a p true (within (p - weight h)) (behind (p - (weight h + size a))) l

    pub in_first : (p q : ℕ) → LiesAt h a p (Within q) → is_late x (Node h a b) p ≡ within q
    unfolding is_late
    in_first p q l = choice_within h a p true (within (p - weight h)) (behind (p - (weight h + size a))) q l ∙ ap within (less_within h a p q l)

    pub in_second : (p q : ℕ) → LiesAt h a p (Behind q) → is_late x (Node h a b) p ≡ behind q
    unfolding is_late
    in_second p q l = choice_behind h a p true (within (p - weight h)) (behind (p - (weight h + size a))) q l ∙ ap behind (less_behind h a p q l)

  -- of a place and a place of the subtree there the same is defined above

  guards_part : (b : Tree) (f r : ℕ) (u : Tree) → has_parts Branch b ≡ true → subtree b f ≡ Some u → r < size u → nat_lt f (guards b) ≡ nat_lt (f + r) (guards b)
  unfolding size
  guards_part Empty f r u w e l = absurd (both_ways false refl w)
  guards_part (Node Cons cells (Node Cons c body)) f r u w e l = go (lies_somewhere Cons cells f)
    where
      inner : (q : ℕ) → size cells + q ≡ f → subtree (Node Cons c body) q ≡ Some u → nat_lt f (size cells + size c) ≡ nat_lt (f + r) (size cells + size c)
      inner q s e = also (lies_somewhere Cons c q)
        where
          also : (l : Lies) × LiesAt Cons c q l → nat_lt f (size cells + size c) ≡ nat_lt (f + r) (size cells + size c)
          also (Here, m) = absurd (omega arith)
          also (Within k, m) =
              let n = subtree_fits c k u (sym (subtree_within (Node Cons c body) Cons c body q k refl m) ∙ e) in
              let i = m.0 in
              lt-ltb f (size cells + size c) (omega arith) ∙ sym (lt-ltb (f + r) (size cells + size c) (omega arith))
          also (Behind k, m) =
              let i = m in
              le-ltb f (size cells + size c) (omega arith) ∙ sym (le-ltb (f + r) (size cells + size c) (omega arith))

      go : (l : Lies) × LiesAt Cons cells f l → nat_lt f (size cells + size c) ≡ nat_lt (f + r) (size cells + size c)
      go (Here, m) = absurd (omega arith)
      go (Within q, m) =
          let n = subtree_fits cells q u (sym (subtree_within (Node Cons cells (Node Cons c body)) Cons cells (Node Cons c body) f q refl m) ∙ e) in
          let i = m.0 in
          lt-ltb f (size cells + size c) (omega arith) ∙ sym (lt-ltb (f + r) (size cells + size c) (omega arith))
      go (Behind q, m) = inner q (omega (arith, m)) (sym (subtree_behind (Node Cons cells (Node Cons c body)) Cons cells (Node Cons c body) f q refl m) ∙ e)
  guards_part (Node h cells rest) f r u w e l = absurd (both_ways false refl w)

  same_above : (h : Head) (a b : Tree) (f r : ℕ) (u : Tree) → has_parts h b ≡ true → subtree b f ≡ Some u → r < size u → is_defined_above x h a b f ≡ is_defined_above x h a b (f + r)
  same_above Branch a b f r u w e l = ap (λ c. is_bound a x && not c) (guards_part b f r u w e l)
  same_above h a b f r u w e l = refl

  -- below a subtree

  and_assoc : (a b c : Bool) → (a && (b && c)) ≡ ((a && b) && c)
  and_assoc true b c = refl
  and_assoc false b c = refl

  abbrev Below : Tree → Type 0
  Below t = (f : ℕ) (u : Tree) → subtree t f ≡ Some u → (r : ℕ) → r < size u → is_late x t (f + r) ≡ (is_late x t f && is_late x u r)

  pub late_below : (t : Tree) → has_whole_branches t ≡ true → (f : ℕ) (u : Tree) → subtree t f ≡ Some u → (r : ℕ) → r < size u → is_late x t (f + r) ≡ (is_late x t f && is_late x u r)
  unfolding has_whole_branches size
  late_below Empty w f u e r l = absurd (none_some u (sym (subtree_empty Empty f refl) ∙ e))
  late_below (Node h a b) w f u e r l = go (lies_somewhere h a f) (late_below a (and_parts (has_whole_branches a) _ (and_parts (has_parts h b) _ w).1).0) (late_below b (and_parts (has_whole_branches a) _ (and_parts (has_parts h b) _ w).1).1)
    where
      go : (l : Lies) × LiesAt h a f l → Below a → Below b → is_late x (Node h a b) (f + r) ≡ (is_late x (Node h a b) f && is_late x u r)
      go (Here, m) d k =
          let same : Node h a b ≡ u = same_tree_of (Node h a b) u (sym (subtree_here (Node h a b) h a b f 0 refl m) ∙ e) in
          let w = weight_le h in
          let z : f ≡ 0 = omega (arith, m, w) in
          ap₂ (is_late x) same (let i : f + r ≡ r = omega arith in i) ∙ sym (ap (λ c. c && is_late x u r) (at_node h a b f m))
      go (Within q, m) d k =
          let s = sym (subtree_within (Node h a b) h a b f q refl m) ∙ e in
          let n = subtree_fits a q u s in
          let there : LiesAt h a (f + r) (Within (q + r)) = (let i : weight h + q ≡ f = m.0 in omega arith, omega arith) in
          in_first h a b (f + r) (q + r) there
          ∙ (ap (λ c. is_free_beside x h b && c) (d q u s r l)
          ∙ (and_assoc (is_free_beside x h b) (is_late x a q) (is_late x u r)
          ∙ ap (λ c. c && is_late x u r) (sym (in_first h a b f q m))))
      go (Behind q, m) d k =
          let s = sym (subtree_behind (Node h a b) h a b f q refl m) ∙ e in
          let there : LiesAt h a (f + r) (Behind (q + r)) = let i : weight h + size a + q ≡ f = m in omega arith in
          in_second h a b (f + r) (q + r) there
          ∙ (ap₂ (λ c v. not c && (is_free_beside x h a && v)) (sym (same_above h a b q r u (and_parts (has_parts h b) _ w).0 s l)) (k q u s r l)
          ∙ (ap (λ c. not (is_defined_above x h a b q) && c) (and_assoc (is_free_beside x h a) (is_late x b q) (is_late x u r))
          ∙ (and_assoc (not (is_defined_above x h a b q)) (is_free_beside x h a && is_late x b q) (is_late x u r)
          ∙ ap (λ c. c && is_late x u r) (sym (in_second h a b f q m)))))

  -- in a list of branches: q is a branch's place, and r one of the branch, from its first one

  abbrev IsThere : (list : Tree) (p : ℕ) (t : Tree) (q r : ℕ) → Type 0
  IsThere list p t q r = (p ≤ q) × (q + r < p + size list) × (is_late x list (q - p + r) ≡ is_late x t r)

  there_first : (a b : Tree) (p : ℕ) (t : Tree) (q r : ℕ) → a ≡ t → q ≡ p → r < size t → IsThere (Node Cons a b) p t q r
  unfolding size
  there_first a b p t q r f e l =
      let s : size a ≡ size t = ap size f in
      let there : LiesAt Cons a (q - p + r) (Within r) = (omega arith, omega arith) in
      (omega arith, omega arith, in_first Cons a b (q - p + r) r there ∙ ap (λ u. is_late x u r) f)

  there_further : (a b : Tree) (p : ℕ) (t : Tree) (q r : ℕ) → IsThere b (p + size a) t q r → IsThere (Node Cons a b) p t q r
  unfolding size
  there_further a b p t q r k =
      let k0 = k.0 in
      let k1 = k.1 in
      let there : LiesAt Cons a (q - p + r) (Behind (q - (p + size a) + r)) = omega arith in
      (omega arith, omega arith, in_second Cons a b (q - p + r) (q - (p + size a) + r) there ∙ k.2)

  pub late_in_list : (list : Tree) (p : ℕ) (t : Tree) (q : ℕ) → IsItem list p t q → (r : ℕ) → r < size t → IsThere list p t q r
  late_in_list Empty p t q i r l = absurd i
  late_in_list (Node h a b) p t q (inl i) r l = subst (λ k. IsThere (Node k a b) p t q r) (sym i.0) (there_first a b p t q r i.1 i.2 l)
  late_in_list (Node h a b) p t q (inr i) r l = subst (λ k. IsThere (Node k a b) p t q r) (sym i.0) (there_further a b p t q r (late_in_list b (p + size a) t q i.1 r l))

  -- a branch, at its body

  in_rest : (cells c : Tree) (k : Head) (d e : Tree) → weight k ≡ 1 → is_late x (Node Cons cells (Node Cons c (Node k d e))) (size cells + size c) ≡ true
  in_rest cells c k d e w =
      in_second Cons cells (Node Cons c (Node k d e)) (size cells + size c) (size c) (omega arith)
      ∙ (in_second Cons c (Node k d e) (size c) 0 (omega arith)
      ∙ at_node k d e 0 (omega (arith, w)))

  not_bound : (b : Bool) → not (b && true) ≡ not b
  not_bound true = refl
  not_bound false = refl

  and_true : (b : Bool) → (b && true) ≡ b
  and_true true = refl
  and_true false = refl

  in_branch : (us cells c : Tree) (k : Head) (d e : Tree) → weight k ≡ 1 → is_late x (Node Branch us (Node Cons cells (Node Cons c (Node k d e)))) (1 + size us + (size cells + size c)) ≡ not (is_bound us x)
  in_branch us cells c k d e w =
      in_second Branch us (Node Cons cells (Node Cons c (Node k d e))) (1 + size us + (size cells + size c)) (size cells + size c) (omega arith)
      ∙ (ap₂ (λ u v. not (is_bound us x && not u) && v) (le-ltb (size cells + size c) (size cells + size c) (omega arith)) (in_rest cells c k d e w)
      ∙ (and_true (not (is_bound us x && true))
      ∙ not_bound (is_bound us x)))

  body_within : (us cells c : Tree) (k : Head) (d e : Tree) → weight k ≡ 1 → 1 + size us + (size cells + size c) < size (Node Branch us (Node Cons cells (Node Cons c (Node k d e))))
  unfolding size
  body_within us cells c k d e w = omega (arith, w)

  find_size : (l : ℕ) (branches otherwise : Tree) (n : ℕ) → n < size branches → 1 + n < size (Node (Find l) branches otherwise)
  unfolding size
  find_size l branches otherwise n m = omega arith

  module _ (game : Tree) (whole : has_whole_branches game ≡ true) (f l : ℕ) (branches otherwise : Tree) (at : subtree game f ≡ Some (Node (Find l) branches otherwise)) where
    below_find : (n : ℕ) → n < size branches → is_late x game (f + (1 + n)) ≡ (is_late x game f && is_late x branches n)
    below_find n m =
        let there : LiesAt (Find l) branches (1 + n) (Within n) = (refl, m) in
        late_below game whole f (Node (Find l) branches otherwise) at (1 + n) (find_size l branches otherwise n m) ∙ ap (λ v. is_late x game f && v) (in_first (Find l) branches otherwise (1 + n) n there)

    below_branch : (t : Tree) (q : ℕ) → IsItem branches (f + 1) t q → (r : ℕ) → r < size t → is_late x game (q + r) ≡ (is_late x game f && is_late x t r)
    below_branch t q item r m =
        let i = late_in_list branches (f + 1) t q item r m in
        let i0 = i.0 in
        let i1 = i.1 in
        ap (is_late x game) (let j : q + r ≡ f + (1 + (q - (f + 1) + r)) = omega arith in j)
        ∙ (below_find (q - (f + 1) + r) (omega arith)
        ∙ ap (λ v. is_late x game f && v) i.2)

    pub at_a_body : (q : ℕ) (us cells c : Tree) (k : Head) (d e : Tree) → IsItem branches (f + 1) (Node Branch us (Node Cons cells (Node Cons c (Node k d e)))) q → weight k ≡ 1
        → is_late x game (q + 1 + size us + size cells + size c) ≡ (is_late x game f && not (is_bound us x))
    at_a_body q us cells c k d e item w =
        ap (is_late x game) (let j : q + 1 + size us + size cells + size c ≡ q + (1 + size us + (size cells + size c)) = omega arith in j)
        ∙ (below_branch (Node Branch us (Node Cons cells (Node Cons c (Node k d e)))) q item (1 + size us + (size cells + size c)) (body_within us cells c k d e w)
        ∙ ap (λ v. is_late x game f && v) (in_branch us cells c k d e w))

pub late_at_a_body : LateAtABody
late_at_a_body game whole f l branches otherwise at q us cells c k d e item w x = at_a_body x game whole f l branches otherwise at q us cells c k d e item w

-- branches of phrases

some_none : (q : Phrase × Phrase) → ◌≡◌ {A = Option (Phrase × Phrase)} None (Some q) → ⊥
some_none q e = cc

abbrev second_of : Option (Phrase × Phrase) → Phrase
second_of None = Nil
second_of (Some q) = q.1

guards_whole : (t : Tree) → is_phrase Guards t ≡ true → has_parts Branch t ≡ true
unfolding is_phrase
guards_whole Empty e = absurd (both_ways false refl e)
guards_whole (Node Cons cells Empty) e = absurd (both_ways false refl (and_parts (is_phrase Cells cells) _ e).1)
guards_whole (Node Cons cells (Node Cons c body)) e = refl
guards_whole (Node Cons cells (Node h c body)) e = absurd (both_ways false refl (and_parts (is_phrase Cells cells) _ e).1)
guards_whole (Node h cells rest) e = absurd (both_ways false refl e)

parts_whole : (σ : Phrase) (h : Head) (b : Tree) (q : Phrase × Phrase) → parts σ h ≡ Some q → is_phrase q.1 b ≡ true → has_parts h b ≡ true
parts_whole Arm Branch b q e f = guards_whole b (ap (λ o. is_phrase (second_of o) b) e ∙ f)
parts_whole σ Branch b q e f = absurd (some_none q e)
parts_whole σ h b q e f = refl

pub phrase_whole : (σ : Phrase) (t : Tree) → is_phrase σ t ≡ true → has_whole_branches t ≡ true
unfolding is_phrase has_whole_branches
phrase_whole σ Empty e = refl
phrase_whole σ (Node h a b) e = go (parts σ h) refl e (λ τ. phrase_whole τ a) (λ τ. phrase_whole τ b)
  where
    go : (o : Option (Phrase × Phrase)) → parts σ h ≡ o → both_are o (λ τ. is_phrase τ a) (λ ρ. is_phrase ρ b) ≡ true
        → ((τ : Phrase) → is_phrase τ a ≡ true → has_whole_branches a ≡ true) → ((τ : Phrase) → is_phrase τ b ≡ true → has_whole_branches b ≡ true)
        → (has_parts h b && (has_whole_branches a && has_whole_branches b)) ≡ true
    go None f e k l = absurd (both_ways false refl e)
    go (Some q) f e k l =
        let p = and_parts (is_phrase q.0 a) _ e in
        and_from (has_parts h b) _ (parts_whole σ h b q f p.1) (and_from (has_whole_branches a) _ (k q.0 p.0) (l q.1 p.1))
