-- Where and_false place names one of some variables but those that are passed over, what stands at other places reads none.
use Rattle.std.proofs.Common.{◌≡◌, ℕ, ◌+◌, ◌<◌, ◌≤◌, Bool, true, false, cond, not, ◌&&◌, ◌||◌, ◌⊎◌, inl, inr, Option, Some, None, refl, ap, ap₂, subst, ◌∙◌, arith, nat_lt, le-ltb, lt-ltb}
use Rattle.std.proofs.lemmas.Bool.{both_ways}
use Rattle.cv_syntax_trees.specs.sites.Sites.{first_of}
use Rattle.cv_syntax_trees.specs.declared.head.Head.{Head}
use Rattle.cv_syntax_trees.specs.declared.head.Head.TheVariants.{Branch, Cons, Find, Leaf, Par, Read}
use Rattle.cv_syntax_trees.specs.Head.{weight}
use Rattle.cv_syntax_trees.specs.Tree.{Tree, Empty, Node, first_place, head_reads_only, reads_only, second_place, size}
use Rattle.cv_meaning_runs.specs.Replacement as at
use Rattle.cv_meaning_runs.specs.Replacement.{IsReplaced, Part, Process, before_body}
use Rattle.cv_meaning_chances.specs.unread.Dropping.{reads_none}
use Rattle.cv_rule_move.specs.merge.Merging.{Body, is_beside}
use Rattle.cv_costs.specs.names.Naming.{first_naming, names_one}
use Rattle.cv_syntax_trees.proofs.lists.Tests.{and_false}

none_of : (v : Bool) (p : ℕ) (o q : Option ℕ) → cond v (Some p) (first_of o q) ≡ None → (v ≡ false) × (o ≡ None) × (q ≡ None)
none_of true p o q e = absurd (cc)
none_of false p None q e = (refl, refl, e)
none_of false p (Some n) q e = absurd (cc)

-- nothing is one of and_false variables
pub nothing_reads : (xs : ℕ → Bool) → ((y : ℕ) → xs y ≡ false) → (t : Tree) → reads_none xs t ≡ true
unfolding reads_only
nothing_reads xs k Empty = refl
nothing_reads xs k (Node h a b) = ap₂ ◌&&◌ (head h) (ap₂ ◌&&◌ (nothing_reads xs k a) (nothing_reads xs k b))
  where
    head : (h : Head) → head_reads_only (λ x. not (xs x)) h ≡ true
    head (Leaf x) = ap not (k x)
    head (Read x) = ap not (k x)
    head h = refl

module _ (xs skip : ℕ → Bool) where
  -- and_false place of the tree, which stands at a place, names one
  abbrev pub IsUnnamed : ℕ → Tree → Type 0
  IsUnnamed p t = first_naming xs skip p t ≡ None

  pub record PartsUnnamed (p : ℕ) (h : Head) (a b : Tree) : Type 0 where
    pub here : names_one xs h a && not (skip p) ≡ false
    pub first : IsUnnamed (first_place p h) a
    pub second : IsUnnamed (second_place p h a) b

  pub parts_unnamed : (p : ℕ) (h : Head) (a b : Tree) → IsUnnamed p (Node h a b) → PartsUnnamed p h a b
  unfolding first_naming
  parts_unnamed p h a b e =
      let r = none_of (names_one xs h a && not (skip p)) p (first_naming xs skip (first_place p h) a) (first_naming xs skip (second_place p h a) b) e in
      record { here = r.0; first = r.1; second = r.2 }

  unnamed_there : (p q : ℕ) (t : Tree) → p ≡ q → IsUnnamed p t → IsUnnamed q t
  unnamed_there p q t e k = subst (λ n. IsUnnamed n t) e k

  not_named : (b : Bool) (p : ℕ) → skip p ≡ false → b && not (skip p) ≡ false → not b ≡ true
  not_named true p e f = absurd (both_ways (not (skip p)) f (ap not e))
  not_named false p e f = refl

  -- a node whose place isn't passed over reads none
  head_unread : (p : ℕ) (h : Head) (a : Tree) → (0 < weight h → skip p ≡ false) → names_one xs h a && not (skip p) ≡ false → head_reads_only (λ x. not (xs x)) h ≡ true
  head_unread p (Leaf x) a k e = not_named (xs x) p (k (omega arith)) e
  head_unread p (Read x) a k e = not_named (xs x) p (k (omega arith)) e
  head_unread p h a k e = refl

  pub unread : (p : ℕ) (t : Tree) → ((q : ℕ) → p ≤ q → q < p + size t → skip q ≡ false) → IsUnnamed p t → reads_none xs t ≡ true
  unfolding reads_only size
  unread p Empty k e = refl
  unread p (Node h a b) k e =
      let r = parts_unnamed p h a b e in
      ap₂ ◌&&◌ (head_unread p h a (λ l. k p (omega arith) (omega arith)) r.here)
      (ap₂ ◌&&◌ (unread (first_place p h) a (λ q l m. k q (omega arith) (omega arith)) r.first) (unread (second_place p h a) b (λ q l m. k q (omega arith) (omega arith)) r.second))

  module _ (old new : Tree) (place : ℕ) where
    -- where the two trees differ
    record Span (p : ℕ) (t : Tree) : Type 0 where
      from : p ≤ place
      to : place + size old ≤ p + size t

    span_of : (part : Part) (p : ℕ) (t u : Tree) → IsReplaced old new place part p t u → Span p t
    unfolding size
    span_of part p t u at.here = record { from = omega arith; to = omega arith }
    span_of part p t u (at.in_continuation {h = h} {a = a} {b = b} {c = c} z) = let r = span_of Process (second_place p h a) b c z in record { from = omega (arith, r.from); to = omega (arith, r.to) }
    span_of part p t u (at.in_parallel {a = a} {b = b} {c = c} z) = let r = span_of Process (first_place p Par) a c z in record { from = omega (arith, r.from); to = omega (arith, r.to) }
    span_of part p t u (at.in_list {a = a} {b = b} {c = c} z) = let r = span_of Process (first_place p Cons) a c z in record { from = omega (arith, r.from); to = omega (arith, r.to) }
    span_of part p t u (at.in_find {l = l} {a = a} {b = b} {c = c} z) = let r = span_of at.Branches (first_place p (Find l)) a c z in record { from = omega (arith, r.from); to = omega (arith, r.to) }
    span_of part p t u (at.in_branch {binders = us} {defined = l} {condition = m} {b = b} {c = c} {more = more} z) = let r = span_of Process (p + before_body us l m) b c z in record { from = omega (arith, r.from); to = omega (arith, r.to) }
    span_of part p t u (at.in_later_branch {a = a} {b = b} {c = c} z) = let r = span_of at.Branches (second_place p Cons a) b c z in record { from = omega (arith, r.from); to = omega (arith, r.to) }

    -- a branch's body, with its guards

    record BranchUnnamed (p : ℕ) (us cells c b more : Tree) : Type 0 where
      binders : IsUnnamed (p + 1) us
      list : IsUnnamed (p + 1 + size us) cells
      condition : IsUnnamed (p + 1 + size us + size cells) c
      body : IsUnnamed (p + before_body us cells c) b
      later : IsUnnamed (second_place p Cons (Node Branch us (Node Cons cells (Node Cons c b)))) more

    branch_unnamed : (p : ℕ) (us cells c body more : Tree) → IsUnnamed p (Node Cons (Node Branch us (Node Cons cells (Node Cons c body))) more) → BranchUnnamed p us cells c body more
    branch_unnamed p us cells c body more e =
        let r = parts_unnamed p Cons (Node Branch us (Node Cons cells (Node Cons c body))) more e in
        let arm : IsUnnamed p (Node Branch us (Node Cons cells (Node Cons c body))) = unnamed_there (p + 0) p (Node Branch us (Node Cons cells (Node Cons c body))) (omega arith) r.first in
        let a = parts_unnamed p Branch us (Node Cons cells (Node Cons c body)) arm in
        let l = parts_unnamed (p + 1 + size us) Cons cells (Node Cons c body) a.second in
        let m = parts_unnamed (p + 1 + size us + 0 + size cells) Cons c body l.second in
        record {
          binders = a.first;
          list = unnamed_there _ (p + 1 + size us) cells (omega arith) l.first;
          condition = unnamed_there _ (p + 1 + size us + size cells) c (omega arith) m.first;
          body = unnamed_there _ (p + before_body us cells c) body (omega arith) m.second;
          later = r.second;
        }

    pub unnamed_at : (part : Part) (p : ℕ) (t u : Tree) → IsReplaced old new place part p t u → IsUnnamed p t → IsUnnamed place old
    unnamed_at part p t u at.here e = e
    unnamed_at part p t u (at.in_continuation {h = h} {a = a} {b = b} {c = c} z) e = unnamed_at Process (second_place p h a) b c z (parts_unnamed p h a b e).second
    unnamed_at part p t u (at.in_parallel {a = a} {b = b} {c = c} z) e = unnamed_at Process (first_place p Par) a c z (parts_unnamed p Par a b e).first
    unnamed_at part p t u (at.in_list {a = a} {b = b} {c = c} z) e = unnamed_at Process (first_place p Cons) a c z (parts_unnamed p Cons a b e).first
    unnamed_at part p t u (at.in_find {l = l} {a = a} {b = b} {c = c} z) e = unnamed_at at.Branches (first_place p (Find l)) a c z (parts_unnamed p (Find l) a b e).first
    unnamed_at part p t u (at.in_branch {binders = us} {defined = l} {condition = m} {b = b} {c = c} {more = more} z) e = unnamed_at Process (p + before_body us l m) b c z (branch_unnamed p us l m b more e).body
    unnamed_at part p t u (at.in_later_branch {a = a} {b = b} {c = c} z) e = unnamed_at at.Branches (second_place p Cons a) b c z (parts_unnamed p Cons a b e).second

    -- with a tree there that reads none, the other tree reads none
    module _ (aside : (q : ℕ) → (q < place) ⊎ (place + size old ≤ q) → skip q ≡ false) (e : reads_none xs new ≡ true) where
      before : (p : ℕ) (t : Tree) → p + size t ≤ place → IsUnnamed p t → reads_none xs t ≡ true
      before p t l k = unread p t (λ q m n. aside q (inl (omega arith))) k

      behind : (p : ℕ) (t : Tree) → place + size old ≤ p → IsUnnamed p t → reads_none xs t ≡ true
      behind p t l k = unread p t (λ q m n. aside q (inr (omega arith))) k

      over : (p : ℕ) (h : Head) (a b c d : Tree) → p + weight h ≤ place → names_one xs h a && not (skip p) ≡ false → reads_none xs c ≡ true → reads_none xs d ≡ true → reads_none xs (Node h c d) ≡ true
      unfolding reads_only
      over p h a b c d l k f g = ap₂ ◌&&◌ (head_unread p h a (λ w. aside p (inl (omega arith))) k) (ap₂ ◌&&◌ f g)

      branch_unread : (us l m c more : Tree) → reads_none xs us ≡ true → reads_none xs l ≡ true → reads_none xs m ≡ true → reads_none xs c ≡ true → reads_none xs more ≡ true → reads_none xs (Node Cons (Node Branch us (Node Cons l (Node Cons m c))) more) ≡ true
      unfolding reads_only
      branch_unread us l m c more f g i j k = ap₂ ◌&&◌ (ap₂ ◌&&◌ f (ap₂ ◌&&◌ g (ap₂ ◌&&◌ i j))) k

      pub unread_changed : (part : Part) (p : ℕ) (t u : Tree) → IsReplaced old new place part p t u → IsUnnamed p t → reads_none xs u ≡ true
      unfolding size
      unread_changed part p t u at.here k = e
      unread_changed part p t u (at.in_continuation {h = h} {a = a} {b = b} {c = c} z) k =
          let r = parts_unnamed p h a b k in
          let s = span_of Process (second_place p h a) b c z in
          over p h a b a c (omega (arith, s.from)) r.here (before (first_place p h) a (omega (arith, s.from)) r.first) (unread_changed Process (second_place p h a) b c z r.second)
      unread_changed part p t u (at.in_parallel {a = a} {b = b} {c = c} z) k =
          let r = parts_unnamed p Par a b k in
          let s = span_of Process (first_place p Par) a c z in
          over p Par a b c b (omega (arith, s.from)) r.here (unread_changed Process (first_place p Par) a c z r.first) (behind (second_place p Par a) b (omega (arith, s.to)) r.second)
      unread_changed part p t u (at.in_list {a = a} {b = b} {c = c} z) k =
          let r = parts_unnamed p Cons a b k in
          let s = span_of Process (first_place p Cons) a c z in
          over p Cons a b c b (omega (arith, s.from)) r.here (unread_changed Process (first_place p Cons) a c z r.first) (behind (second_place p Cons a) b (omega (arith, s.to)) r.second)
      unread_changed part p t u (at.in_find {l = l} {a = a} {b = b} {c = c} z) k =
          let r = parts_unnamed p (Find l) a b k in
          let s = span_of at.Branches (first_place p (Find l)) a c z in
          over p (Find l) a b c b (omega (arith, s.from)) r.here (unread_changed at.Branches (first_place p (Find l)) a c z r.first) (behind (second_place p (Find l) a) b (omega (arith, s.to)) r.second)
      unread_changed part p t u (at.in_branch {binders = us} {defined = l} {condition = m} {b = b} {c = c} {more = more} z) k =
          let s = span_of Process (p + before_body us l m) b c z in
          let r = branch_unnamed p us l m b more k in
          let x = unread_changed Process (p + before_body us l m) b c z r.body in
          branch_unread us l m c more (before (p + 1) us (omega (arith, s.from)) r.binders) (before (p + 1 + size us) l (omega (arith, s.from)) r.list) (before (p + 1 + size us + size l) m (omega (arith, s.from)) r.condition) x
          (behind (second_place p Cons (Node Branch us (Node Cons l (Node Cons m b)))) more (omega (arith, s.to)) r.later)
      unread_changed part p t u (at.in_later_branch {a = a} {b = b} {c = c} z) k =
          let r = parts_unnamed p Cons a b k in
          let s = span_of at.Branches (second_place p Cons a) b c z in
          over p Cons a b a c (omega (arith, s.from)) r.here (before (first_place p Cons) a (omega (arith, s.from)) r.first) (unread_changed at.Branches (second_place p Cons a) b c z r.second)

-- the places beside the first body of a construct

module _ (p : ℕ) (t : Tree) (b : Body) where
  -- those of the body itself are not among them
  pub body_kept : (q : ℕ) → b.place ≤ q → q < b.place + size b.process → is_beside p t b q ≡ false
  body_kept q l m = ap₂ ◌||◌ (ap (λ v. not (nat_lt q p) && v) (le-ltb q b.place l) ∙ and_false (not (nat_lt q p))) (ap (λ v. not v && nat_lt q (p + size t)) (lt-ltb q (b.place + size b.process) m))

  -- nor are those outside of the construct
  pub outside_kept : p ≤ b.place → b.place + size b.process ≤ p + size t → (q : ℕ) → (q < p) ⊎ (p + size t ≤ q) → is_beside p t b q ≡ false
  outside_kept f g q (inl l) = ap₂ ◌||◌ (ap (λ v. not v && nat_lt q b.place) (lt-ltb q p l)) (ap (λ v. not v && nat_lt q (p + size t)) (lt-ltb q (b.place + size b.process) (omega arith)))
  outside_kept f g q (inr l) = ap₂ ◌||◌ (ap (λ v. not (nat_lt q p) && v) (le-ltb q b.place (omega arith)) ∙ and_false (not (nat_lt q p))) (ap (λ v. not (nat_lt q (b.place + size b.process)) && v) (le-ltb q (p + size t) l) ∙ and_false (not (nat_lt q (b.place + size b.process))))
