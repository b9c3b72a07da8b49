-- What is drawn for a right body, node by node, is all that its text asks for.
use Rattle.std.proofs.Common.{◌≡◌, ℕ, suc, Bool, true, false, ◌&&◌, ◌||◌, ◌==◌, List, [], ◌∷◌, ◌++◌, ◌⊎◌, inl, inr, flat_map, length, refl, sym, subst, eqb-true}
use Rattle.std.proofs.lemmas.Bool.{and_parts, both_ways}
use Rattle.std.specs.List.{AllByRecursion}
use Rattle.cv_syntax_trees.specs.declared.head.Head.{Head}
use Rattle.cv_syntax_trees.specs.declared.head.Head.TheVariants.{New, Let, If, Find, Branch, Cons, Binder}
use Rattle.cv_syntax_trees.specs.Tree.{Tree, Empty, Node, first_place, second_place}
use Rattle.cv_group_rules.specs.Rules.{defines, defines_here}
use Rattle.cv_meaning.specs.contexts.Inlined.{Caller}
use Rattle.cv_inline.specs.Draws.{finds_in}
use Rattle.cv_inline_laws.specs.draws.DrawnNames.{AreBranchesDrawn, AreIndicesDrawn, DrawnNames, IsBodyDrawn, has_find, has_indices, has_name}
use Rattle.cv_inline_names_laws.specs.accepted.Drawn.{Opening, opening_if, openings_at, openings_in}
use Rattle.cv_inline_names_laws.specs.accepted.RightBodies.{are_right_branches, is_body_term, is_empty, is_right_body}
use Rattle.cv_inline_names_laws.specs.cells.Layout.{are_right_texts, is_right_text, is_term, is_term_head}
use Rattle.cv_inline_names_laws.specs.covered.Covered.{names_stand_bare}
use Rattle.cv_syntax_trees.proofs.lists.Tests.{or_cases}
use Rattle.cv_syntax_trees.proofs.lists.Each.{AllByRecursion_append}

module _ (d : DrawnNames) (ss : List Caller) (c : ℕ) (opens : (place site branch : ℕ) → Bool) where
  abbrev Opens : Opening → Type 0
  Opens r = opens r.place r.site r.branch ≡ true

  pub record IsCovered (q : ℕ) (t : Tree) : Type 0 where
    pub names : (x : ℕ) → defines t x ≡ true → has_name d c x ≡ true
    pub finds : AllByRecursion (λ r. has_find d c r ≡ true) (finds_in q t)
    pub opened : AllByRecursion Opens (openings_in ss q t)

  empty_covered : (q : ℕ) (a : Tree) → is_empty a ≡ true → IsCovered q a
  unfolding defines finds_in openings_in
  empty_covered q Empty e = record { names = λ x i. absurd (both_ways false refl i); finds = tt; opened = tt }
  empty_covered q (Node h a b) e = absurd (both_ways false refl e)

  node_covered : (q : ℕ) (h : Head) (a b : Tree) → finds_in q (Node h a b) ≡ finds_in (first_place q h) a ++ finds_in (second_place q h a) b → openings_in ss q (Node h a b) ≡ openings_in ss (first_place q h) a ++ openings_in ss (second_place q h a) b
      → ((x : ℕ) → defines_here h x ≡ true → has_name d c x ≡ true) → IsCovered (first_place q h) a → IsCovered (second_place q h a) b → IsCovered q (Node h a b)
  unfolding defines
  node_covered q h a b f o here k l = record {
    names = λ x e. go x (or_cases (defines_here h x) (defines a x || defines b x) e);
    finds = subst (AllByRecursion (λ r. has_find d c r ≡ true)) (sym f) (AllByRecursion_append (λ r. has_find d c r ≡ true) (finds_in (first_place q h) a) (finds_in (second_place q h a) b) k.finds l.finds);
    opened = subst (AllByRecursion Opens) (sym o) (AllByRecursion_append Opens (openings_in ss (first_place q h) a) (openings_in ss (second_place q h a) b) k.opened l.opened);
  }
    where
      below : (x : ℕ) → (defines a x ≡ true) ⊎ (defines b x ≡ true) → has_name d c x ≡ true
      below x (inl e) = k.names x e
      below x (inr e) = l.names x e

      go : (x : ℕ) → (defines_here h x ≡ true) ⊎ ((defines a x || defines b x) ≡ true) → has_name d c x ≡ true
      go x (inl e) = here x e
      go x (inr e) = below x (or_cases (defines a x) (defines b x) e)

  none_here : (x : ℕ) → false ≡ true → has_name d c x ≡ true
  none_here x e = absurd (both_ways false refl e)

  term_covered : (q : ℕ) (t : Tree) → is_term t ≡ true → IsCovered q t
  unfolding is_term finds_in openings_in
  term_covered q Empty e = empty_covered q Empty refl
  term_covered q (Node (New z U) a b) e = absurd (both_ways false refl e)
  term_covered q (Node (Let z U) a b) e = absurd (both_ways false refl e)
  term_covered q (Node (Find l) a b) e = absurd (both_ways false refl e)
  term_covered q (Node h a b) e =
      let p = and_parts (is_term a) (is_term b) (and_parts (is_term_head h) (is_term a && is_term b) e).1 in
      node_covered q h a b refl refl none_here (term_covered (first_place q h) a p.0) (term_covered (second_place q h a) b p.1)

  -- the branches of a find are opened for a site

  module _ (s : Caller) (q : ℕ) (open_there : (b : ℕ) → has_indices d c q s.number b 0 (length s.replications) ≡ true → opens q s.number b ≡ true) where
    opened_at : (k : ℕ) (a : Tree) → AreIndicesDrawn d c q s k a → AllByRecursion Opens (openings_at q s k a)
    unfolding openings_at AreIndicesDrawn
    opened_at k (Node Cons (Node Branch (Node (Binder u n) x y) rest) more) h = go (s.bound == n) h.0 (opened_at (suc k) more h.1)
      where
        go : (b : Bool) → (b ≡ true → has_indices d c q s.number k 0 (length s.replications) ≡ true) → AllByRecursion Opens (openings_at q s (suc k) more)
            → AllByRecursion Opens (opening_if b (record { place = q; site = s.number; branch = k }) ++ openings_at q s (suc k) more)
        go true e ih = (open_there k (e refl), ih)
        go false e ih = ih
    opened_at k a h = tt

  opened_all : (q : ℕ) (a : Tree) (ts : List Caller) → AllByRecursion (λ (s : Caller). (q b : ℕ) → has_indices d c q s.number b 0 (length s.replications) ≡ true → opens q s.number b ≡ true) ts → AllByRecursion (λ s. AreIndicesDrawn d c q s 0 a) ts → AllByRecursion Opens (flat_map (λ s. openings_at q s 0 a) ts)
  opened_all q a [] f h = tt
  opened_all q a (s ∷ ts) f h = AllByRecursion_append Opens (openings_at q s 0 a) (flat_map (λ s. openings_at q s 0 a) ts) (opened_at s q (f.0 q) 0 a h.0) (opened_all q a ts f.1 h.1)

  module _ (open_for : AllByRecursion (λ (s : Caller). (q b : ℕ) → has_indices d c q s.number b 0 (length s.replications) ≡ true → opens q s.number b ≡ true) ss) where
    find_covered : (q l : ℕ) (a b : Tree) → has_find d c q ≡ true → AllByRecursion (λ s. AreIndicesDrawn d c q s 0 a) ss → IsCovered (first_place q (Find l)) a → IsCovered (second_place q (Find l) a) b → IsCovered q (Node (Find l) a b)
    unfolding defines finds_in openings_in
    find_covered q l a b f i k m = record {
      names = λ x e. go x (or_cases (defines a x) (defines b x) e);
      finds = (f, AllByRecursion_append (λ r. has_find d c r ≡ true) (finds_in (first_place q (Find l)) a) (finds_in (second_place q (Find l) a) b) k.finds m.finds);
      opened = AllByRecursion_append Opens (flat_map (λ s. openings_at q s 0 a) ss) (openings_in ss (first_place q (Find l)) a ++ openings_in ss (second_place q (Find l) a) b)
          (opened_all q a ss open_for i) (AllByRecursion_append Opens (openings_in ss (first_place q (Find l)) a) (openings_in ss (second_place q (Find l) a) b) k.opened m.opened);
    }
      where
        go : (x : ℕ) → (defines a x ≡ true) ⊎ (defines b x ≡ true) → has_name d c x ≡ true
        go x (inl e) = k.names x e
        go x (inr e) = m.names x e

    if_covered : (q : ℕ) (a b e : Tree) → is_term a ≡ true → IsCovered (first_place (second_place q If a) Cons) b → IsCovered (first_place (second_place (second_place q If a) Cons b) Cons) e → IsCovered q (Node If a (Node Cons b (Node Cons e Empty)))
    unfolding finds_in openings_in
    if_covered q a b e w k m =
        node_covered q If a (Node Cons b (Node Cons e Empty)) refl refl none_here (term_covered (first_place q If) a w)
        (node_covered (second_place q If a) Cons b (Node Cons e Empty) refl refl none_here k
        (node_covered (second_place (second_place q If a) Cons b) Cons e Empty refl refl none_here m (empty_covered _ Empty refl)))

    branch_covered : (r u n : ℕ) (x cells m body more : Tree) → is_empty x ≡ true → is_term cells ≡ true → is_term m ≡ true
        → IsCovered (second_place (second_place (second_place (first_place r Cons) Branch (Node (Binder u n) x Empty)) Cons cells) Cons m) body
        → IsCovered (second_place r Cons (Node Branch (Node (Binder u n) x Empty) (Node Cons cells (Node Cons m body)))) more
        → IsCovered r (Node Cons (Node Branch (Node (Binder u n) x Empty) (Node Cons cells (Node Cons m body))) more)
    unfolding finds_in openings_in
    branch_covered r u n x cells m body more e f g k l =
        let us : Tree = Node (Binder u n) x Empty in
        node_covered r Cons (Node Branch us (Node Cons cells (Node Cons m body))) more refl refl none_here
        (node_covered (first_place r Cons) Branch us (Node Cons cells (Node Cons m body)) refl refl none_here
        (node_covered (first_place (first_place r Cons) Branch) (Binder u n) x Empty refl refl none_here (empty_covered _ x e) (empty_covered _ Empty refl))
        (node_covered (second_place (first_place r Cons) Branch us) Cons cells (Node Cons m body) refl refl none_here (term_covered _ cells f)
        (node_covered (second_place (second_place (first_place r Cons) Branch us) Cons cells) Cons m body refl refl none_here (term_covered _ m g) k)))
        l

    mutual
      unfolding is_right_body is_body_term is_right_text names_stand_bare IsBodyDrawn finds_in openings_in

      pub body_covered : (q : ℕ) (t : Tree) → is_right_body t ≡ true → is_right_text t ≡ true → names_stand_bare t ≡ true → IsBodyDrawn d ss c q t → IsCovered q t
      body_covered q (Node (New z U) a b) g w u k =
          let n = and_parts (is_empty a) (names_stand_bare a && names_stand_bare b) u in
          node_covered q (New z U) a b refl refl (λ x e. subst (λ y. has_name d c y ≡ true) (eqb-true z x e) k.0) (empty_covered _ a n.0)
          (body_covered (second_place q (New z U) a) b g w (and_parts (names_stand_bare a) (names_stand_bare b) n.1).1 k.1)
      body_covered q (Node (Let z U) a b) g w u k =
          let v = and_parts (is_term a) (is_right_text b) w in
          node_covered q (Let z U) a b refl refl (λ x e. subst (λ y. has_name d c y ≡ true) (eqb-true z x e) k.0) (term_covered _ a v.0)
          (body_covered (second_place q (Let z U) a) b (and_parts _ (is_right_body b) g).1 v.1 (and_parts (names_stand_bare a) (names_stand_bare b) u).1 k.1)
      body_covered q (Node If a (Node Cons b (Node Cons e Empty))) g w u k =
          let h = and_parts (is_right_body b) (is_right_body e) (and_parts _ (is_right_body b && is_right_body e) g).1 in
          let v = and_parts (is_term a) (is_right_text b && is_right_text e) w in
          let j = and_parts (is_right_text b) (is_right_text e) v.1 in
          let n = and_parts (names_stand_bare b) _ (and_parts (names_stand_bare a) (names_stand_bare b && (names_stand_bare e && true)) u).1 in
          if_covered q a b e v.0
          (body_covered (first_place (second_place q If a) Cons) b h.0 j.0 n.0 k.0)
          (body_covered (first_place (second_place (second_place q If a) Cons b) Cons) e h.1 j.1 (and_parts (names_stand_bare e) true n.1).0 k.1)
      body_covered q (Node If a (Node Cons b (Node Cons e (Node i x y)))) g w u k = absurd (both_ways false refl g)
      body_covered q (Node (Find l) a b) g w u k =
          let h = and_parts (are_right_branches a) (is_right_body b) g in
          let v = and_parts (are_right_texts a) (is_right_text b) w in
          let n = and_parts (names_stand_bare a) (names_stand_bare b) u in
          find_covered q l a b k.0 k.1 (branches_covered (first_place q (Find l)) a h.0 v.0 n.0 k.2) (body_covered (second_place q (Find l) a) b h.1 v.1 n.1 k.3)
      body_covered q t g w u k = term_covered q t w

      branches_covered : (r : ℕ) (t : Tree) → are_right_branches t ≡ true → are_right_texts t ≡ true → names_stand_bare t ≡ true → AreBranchesDrawn d ss c r t → IsCovered r t
      branches_covered r Empty g w u k = empty_covered r Empty refl
      branches_covered r (Node Cons (Node Branch (Node (Binder v n) x Empty) (Node Cons cells (Node Cons m body))) more) g w u k =
          let us : Tree = Node (Binder v n) x Empty in
          let h = and_parts (is_right_body body) (are_right_branches more) (and_parts _ (is_right_body body && are_right_branches more) (and_parts _ _ g).1).1 in
          let y = and_parts (is_term cells) (is_term m && (is_right_text body && are_right_texts more)) w in
          let z = and_parts (is_term m) (is_right_text body && are_right_texts more) y.1 in
          let i = and_parts (is_right_text body) (are_right_texts more) z.1 in
          let bare = and_parts (names_stand_bare us && (names_stand_bare cells && (names_stand_bare m && names_stand_bare body))) (names_stand_bare more) u in
          let own = and_parts (names_stand_bare us) (names_stand_bare cells && (names_stand_bare m && names_stand_bare body)) bare.0 in
          let inner = and_parts (names_stand_bare m) (names_stand_bare body) (and_parts (names_stand_bare cells) (names_stand_bare m && names_stand_bare body) own.1).1 in
          branch_covered r v n x cells m body more (and_parts (is_empty x) _ own.0).0 y.0 z.0
          (body_covered _ body h.0 i.0 inner.1 k.0) (branches_covered _ more h.1 i.1 bare.1 k.1)
      branches_covered r t g w u k = absurd (both_ways false refl g)
