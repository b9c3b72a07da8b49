-- What is computed is the first fault in preorder, and there is none exactly where each node does what is asked of it.
use Rattle.std.proofs.Common.{◌≡◌, ℕ, ◌+◌, ◌≤◌, Option, Some, None, refl, ap, subst, ◌∙◌, arith}
use Rattle.cv_syntax_trees.specs.declared.head.Head.{Head}
use Rattle.cv_syntax_trees.specs.Tree.{Tree, Empty, Node, size, first_place, second_place}
use Rattle.cv_syntax.specs.faults.Walk.{Walk, IsDecided, IsObeyed, Faulty, here, in_first, in_second, IsFirst, first_of, placed, first_fault}

pub none_first : {A : Type 0} (a b : Option A) → first_of a b ≡ None → (a ≡ None) × (b ≡ None)
none_first None b h = (refl, h)
none_first (Some f) b h = absurd (cc)

pub first_none : {A : Type 0} (a b : Option A) → a ≡ None → first_of a b ≡ b
first_none None b h = refl
first_none (Some f) b h = absurd (cc)

none_placed : {F : Type 0} (p : ℕ) (o : Option F) → placed p o ≡ None → o ≡ None
none_placed p None h = refl
none_placed p (Some f) h = absurd (cc)

module _ {S F : Type 0} (w : Walk S F) (d : IsDecided w) where
  -- no fault is found only where each node obeys
  pub obeyed_where_none : (s : S) (p : ℕ) (t : Tree) → first_fault w s p t ≡ None → IsObeyed w s t
  unfolding first_fault IsObeyed
  obeyed_where_none s p Empty e = tt
  obeyed_where_none s p (Node h a b) e =
      let x = none_first (placed p (w.fault s h a b)) _ e in
      let y = none_first (first_fault w (w.first s h a) (first_place p h) a) _ x.1 in
      (d.obeys s h a b (none_placed p (w.fault s h a b) x.0), obeyed_where_none (w.first s h a) (first_place p h) a y.0, obeyed_where_none (w.second s h a) (second_place p h a) b y.1)

  -- and there none is found
  pub none_where_obeyed : (s : S) (p : ℕ) (t : Tree) → IsObeyed w s t → first_fault w s p t ≡ None
  unfolding first_fault IsObeyed
  none_where_obeyed s p Empty o = refl
  none_where_obeyed s p (Node h a b) o =
      first_none (placed p (w.fault s h a b)) _ (ap (placed p) (d.finds_none s h a b o.0))
      ∙ (first_none (first_fault w (w.first s h a) (first_place p h) a) _ (none_where_obeyed (w.first s h a) (first_place p h) a o.1)
      ∙ none_where_obeyed (w.second s h a) (second_place p h a) b o.2)

  -- a fault lies in the tree
  pub later : (s : S) (p : ℕ) (t : Tree) (q : ℕ) (f : F) → Faulty w s p t q f → p ≤ q
  later s p t q f (here x) = omega arith
  later s p (Node h a b) q f (in_first x) = let i = later (w.first s h a) (first_place p h) a q f x in omega arith
  later s p (Node h a b) q f (in_second x) = let i = later (w.second s h a) (second_place p h a) b q f x in omega arith

  pub earlier : (s : S) (p : ℕ) (t : Tree) (q : ℕ) (f : F) → Faulty w s p t q f → q ≤ p + size t
  unfolding size
  earlier s p Empty q f x = elim x [ ]
  earlier s p (Node h a b) q f (here x) = omega arith
  earlier s p (Node h a b) q f (in_first x) = let i = earlier (w.first s h a) (first_place p h) a q f x in omega arith
  earlier s p (Node h a b) q f (in_second x) = let i = earlier (w.second s h a) (second_place p h a) b q f x in omega arith

  pub no_fault : (s : S) (p : ℕ) (t : Tree) (q : ℕ) (f : F) → IsObeyed w s t → Faulty w s p t q f → ⊥
  unfolding IsObeyed
  no_fault s p Empty q f o x = elim x [ ]
  no_fault s p (Node h a b) q f o (here x) = d.not_both s h a b f o.0 x
  no_fault s p (Node h a b) q f o (in_first x) = no_fault (w.first s h a) (first_place p h) a q f o.1 x
  no_fault s p (Node h a b) q f o (in_second x) = no_fault (w.second s h a) (second_place p h a) b q f o.2 x

  module _ (s : S) (p : ℕ) (h : Head) (a b : Tree) (q : ℕ) (f : F) where
    at_node : (g : F) → w.fault s h a b ≡ Some g → (let o : Option (ℕ × F) = Some (p, g) in o) ≡ Some (q, f) → IsFirst w s p (Node h a b) q f
    at_node g x e =
        let P : Type 0 = ℕ × F in
        let i : (let y : P = (p, g) in y) ≡ (q, f) = cc in
        let j = ap (λ (y : P). y.0) i in
        let m = ap (λ (y : P). y.1) i in
        record { there = subst (λ z. Faulty w s p (Node h a b) z f) j (here (d.breaks s h a b f (x ∙ ap Some m))); least = λ r k y. let n = later s p (Node h a b) r k y in omega arith }

    before : w.fault s h a b ≡ None → IsFirst w (w.first s h a) (first_place p h) a q f → (r : ℕ) (g : F) → Faulty w s p (Node h a b) r g → q ≤ r
    before x m r g (here y) = absurd (d.not_both s h a b g (d.obeys s h a b x) y)
    before x m r g (in_first y) = m.least r g y
    before x m r g (in_second y) = let i = earlier (w.first s h a) (first_place p h) a q f m.there in let j = later (w.second s h a) (second_place p h a) b r g y in omega arith

    behind : w.fault s h a b ≡ None → IsObeyed w (w.first s h a) a → IsFirst w (w.second s h a) (second_place p h a) b q f → (r : ℕ) (g : F) → Faulty w s p (Node h a b) r g → q ≤ r
    behind x o m r g (here y) = absurd (d.not_both s h a b g (d.obeys s h a b x) y)
    behind x o m r g (in_first y) = absurd (no_fault (w.first s h a) (first_place p h) a r g o y)
    behind x o m r g (in_second y) = m.least r g y

    cases : (o : Option F) (l m : Option (ℕ × F)) → w.fault s h a b ≡ o → first_fault w (w.first s h a) (first_place p h) a ≡ l → (l ≡ Some (q, f) → IsFirst w (w.first s h a) (first_place p h) a q f) → (m ≡ Some (q, f) → IsFirst w (w.second s h a) (second_place p h a) b q f) → first_of (placed p o) (first_of l m) ≡ Some (q, f) → IsFirst w s p (Node h a b) q f
    cases (Some g) l m x y i j e = at_node g x e
    cases None (Some u) m x y i j e = let z = i e in record { there = in_first z.there; least = before x z }
    cases None None m x y i j e = let z = j e in record { there = in_second z.there; least = behind x (obeyed_where_none (w.first s h a) (first_place p h) a y) z }

  -- what is found is the first fault
  pub finds_first : (s : S) (p : ℕ) (t : Tree) (q : ℕ) (f : F) → first_fault w s p t ≡ Some (q, f) → IsFirst w s p t q f
  unfolding first_fault
  finds_first s p Empty q f e = absurd (cc)
  finds_first s p (Node h a b) q f e =
      cases s p h a b q f (w.fault s h a b) (first_fault w (w.first s h a) (first_place p h) a) (first_fault w (w.second s h a) (second_place p h a) b) refl refl (finds_first (w.first s h a) (first_place p h) a q f) (finds_first (w.second s h a) (second_place p h a) b q f) e
