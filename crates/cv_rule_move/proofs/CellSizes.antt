-- The cells of a game are those of the game in which a definition is moved, each with its size.
use Rattle.std.proofs.Common.{◌≡◌, ℕ, ◌==◌, ◌&&◌, Bool, true, false, cond, not, List, [], ◌∷◌, ◌++◌, flat_map, ◌⊎◌, inl, inr, Option, Some, None, refl, sym, ap, ap₂, subst, ◌∙◌, eqb-true, eq-eqb}
use Rattle.std.proofs.lemmas.Bool.{and_parts, both_ways, not-true, or_parts}
use Rattle.cv_syntax_trees.specs.declared.head.Head.{Head}
use Rattle.cv_syntax_trees.specs.declared.head.Head.TheVariants.{Binder, Branch, Call, Cons, Event, Find, If, Key, Let, New, Par}
use Rattle.cv_syntax_trees.specs.Tree.{Tree, Empty, Node}
use Rattle.cv_syntax_trees.specs.lists.Options.{first_of}
use Rattle.cv_meaning.specs.Tapes.{Cell, New_at, same_tuple}
use Rattle.cv_meaning.specs.Interpretation.{Setting}
use Rattle.cv_meaning.specs.Runs.{Adversary, Events, Mode, Random, Real}
use Rattle.cv_meaning.specs.Cells.{at_each_copy, bounds_under, cells, cells_at, coin_cells, if_tested, test_cells, test_cells_at, tuples_below}
use Rattle.cv_meaning.specs.Still.{head_is_still, is_still}
use Rattle.cv_meaning_runs.specs.Replacement as runs
use Rattle.cv_meaning_runs.specs.Replacement.{IsReplaced, here, in_branch, in_continuation, in_find, in_later_branch, in_list, in_parallel}
use Rattle.cv_meaning_chances.specs.unread.Sizes.{size_in}
use Rattle.cv_meaning_chances.proofs.unread.CellSizes.{size_once, still_size, size_each, still_cells, still_tests, size_append}
use Rattle.cv_scope_rules.specs.Made.{is_bound}
use Rattle.cv_scope_rules.specs.Phrases.{Arm, Binders, Body, Branches, Cells, Nil, Term, Terms, is_phrase}
use Rattle.cv_steps.proofs.Flat.{guarded_of, guards_of, nil_still, term_still, terms_still}
use Rattle.cv_rule_move.specs.Moving.{defined, first_naming, first_naming_branch, has_bodies, in_bodies, in_branches}
use Rattle.cv_rule_move.proofs.Parts.{assigned_of, branch_unnamed, branches_of, condition_of, drawn_of, else_of, not_here, then_of, told_of}

-- a construct that defines another variable, or none
abbrev is_other : ℕ → Head → Bool
is_other x (New y T) = not (y == x)
is_other x (Let y T) = not (y == x)
is_other x (Binder y T) = not (y == x)
is_other x (Key y) = false
is_other x (Call y l) = false
is_other x h = true

module _ (g : Setting) (give : Head → List ℕ → List (Cell × ℕ)) (d : Cell) where
  abbrev size_at : List ℕ → Tree → Option ℕ
  size_at bounds b = size_in (at_each_copy g give bounds b) d

  abbrev own_size : List ℕ → Head → Option ℕ
  own_size bounds h = size_in (flat_map (give h) (tuples_below bounds)) d

  size_node : (bounds : List ℕ) (h : Head) (a b : Tree) → size_at bounds (Node h a b) ≡ first_of (own_size bounds h) (first_of (size_at (bounds_under g bounds h) a) (size_at (bounds_under g bounds h) b))
  unfolding at_each_copy
  size_node bounds h a b =
      let under : List ℕ = bounds_under g bounds h in
      size_append (flat_map (give h) (tuples_below bounds)) (at_each_copy g give under a ++ at_each_copy g give under b) d
      ∙ ap (first_of (own_size bounds h)) (size_append (at_each_copy g give under a) (at_each_copy g give under b) d)

  size_empty : (bounds : List ℕ) → size_at bounds Empty ≡ None
  unfolding at_each_copy
  size_empty bounds = refl

  under_node : (bounds : List ℕ) (h : Head) (a b c e : Tree) → size_at (bounds_under g bounds h) a ≡ size_at (bounds_under g bounds h) c → size_at (bounds_under g bounds h) b ≡ size_at (bounds_under g bounds h) e
      → size_at bounds (Node h a b) ≡ size_at bounds (Node h c e)
  under_node bounds h a b c e x y = size_node bounds h a b ∙ ap₂ (λ o q. first_of (own_size bounds h) (first_of o q)) x y ∙ sym (size_node bounds h c e)

  -- so it is of whole games

  module _ (old new : Tree) (place : ℕ) (same : (bounds : List ℕ) → size_at bounds old ≡ size_at bounds new) where
    replaced_size : (part : runs.Part) (p : ℕ) (bounds : List ℕ) (b c : Tree) → IsReplaced old new place part p b c → size_at bounds b ≡ size_at bounds c
    replaced_size part p bounds b c here = same bounds
    replaced_size part p bounds b c (in_continuation {h = h} {a = a} {b = x} {c = y} z) = under_node bounds h a x a y refl (replaced_size runs.Process _ (bounds_under g bounds h) x y z)
    replaced_size part p bounds b c (in_parallel {a = x} {b = a} {c = y} z) = under_node bounds Par x a y a (replaced_size runs.Process _ bounds x y z) refl
    replaced_size part p bounds b c (in_list {a = x} {b = a} {c = y} z) = under_node bounds Cons x a y a (replaced_size runs.Process _ bounds x y z) refl
    replaced_size part p bounds b c (in_find {l = l} {a = x} {b = a} {c = y} z) = under_node bounds (Find l) x a y a (replaced_size runs.Branches _ bounds x y z) refl
    replaced_size part p bounds b c (in_branch {binders = bs} {defined = l} {condition = m} {b = x} {c = y} {more = more} z) =
        under_node bounds Cons (Node Branch bs (Node Cons l (Node Cons m x))) more (Node Branch bs (Node Cons l (Node Cons m y))) more
        (under_node bounds Branch bs (Node Cons l (Node Cons m x)) bs (Node Cons l (Node Cons m y)) refl
        (under_node bounds Cons l (Node Cons m x) l (Node Cons m y) refl
        (under_node bounds Cons m x m y refl (replaced_size runs.Process _ bounds x y z))))
        refl
    replaced_size part p bounds b c (in_later_branch {a = a} {b = x} {c = y} z) = under_node bounds Cons a x a y refl (replaced_size runs.Branches _ bounds x y z)

  -- A definition gives the cell no size, or else no construct does that defines another variable.

  module _ (still : (h : Head) (u : List ℕ) → head_is_still h ≡ true → size_in (give h u) d ≡ None) (bounds : List ℕ) where
    own_still : (h : Head) → head_is_still h ≡ true → own_size bounds h ≡ None
    own_still h e = size_each (give h) d (λ u. still h u e) (tuples_below bounds)

    flat : (t : Tree) → is_still t ≡ true → size_at bounds t ≡ None
    flat t e = still_size g give d still bounds t e

    -- a node of a construct that gives nothing itself
    passed : (h : Head) (a b : Tree) → head_is_still h ≡ true → bounds_under g bounds h ≡ bounds → size_at bounds (Node h a b) ≡ first_of (size_at bounds a) (size_at bounds b)
    passed h a b e r = size_node bounds h a b ∙ (λ i. first_of (own_still h e i) (first_of (size_at (r i) a) (size_at (r i) b)))

    -- and a construct of which the first child gives nothing
    before : (h : Head) (a b : Tree) → is_still a ≡ true → bounds_under g bounds h ≡ bounds → size_at bounds (Node h a b) ≡ first_of (own_size bounds h) (size_at bounds b)
    before h a b e r = size_node bounds h a b ∙ (λ i. first_of (own_size bounds h) (first_of (size_at (r i) a) (size_at (r i) b))) ∙ ap (λ o. first_of (own_size bounds h) (first_of o (size_at bounds b))) (flat a e)

    arm_size : (us listed c body : Tree) → is_still listed ≡ true → is_still c ≡ true → size_at bounds (Node Branch us (Node Cons listed (Node Cons c body))) ≡ first_of (size_at bounds us) (size_at bounds body)
    arm_size us listed c body e f =
        passed Branch us (Node Cons listed (Node Cons c body)) refl refl
        ∙ ap (first_of (size_at bounds us)) (
        passed Cons listed (Node Cons c body) refl refl ∙ ap₂ first_of (flat listed e) (passed Cons c body refl refl ∙ ap (λ o. first_of o (size_at bounds body)) (flat c f)))

    module _ (h : Head) (a : Tree) (x : ℕ) (bare : is_still a ≡ true) (same : bounds_under g bounds h ≡ bounds) where
      abbrev own : Option ℕ
      own = own_size bounds h

      abbrev put : Tree → Tree
      put b = Node h a b

      behind : (b : Tree) → size_at bounds (Node h a b) ≡ first_of own (size_at bounds b)
      behind b = before h a b bare same

      -- one body

      swapped : (o q r : Option ℕ) → (o ≡ None) ⊎ (q ≡ None) → first_of o (first_of q r) ≡ first_of q (first_of o r)
      swapped o q r (inl e) = ap (λ z. first_of z (first_of q r)) e ∙ ap (λ z. first_of q (first_of z r)) (sym e)
      swapped o q r (inr e) = ap (λ z. first_of o (first_of z r)) e ∙ ap (λ z. first_of z (first_of o r)) (sym e)

      one_body : (kh : Head) (ka b : Tree) → is_still ka ≡ true → bounds_under g bounds kh ≡ bounds → (own ≡ None) ⊎ (own_size bounds kh ≡ None) → size_at bounds (Node h a (Node kh ka b)) ≡ size_at bounds (Node kh ka (Node h a b))
      one_body kh ka b e r z =
          behind (Node kh ka b) ∙ ap (first_of own) (before kh ka b e r)
          ∙ swapped own (own_size bounds kh) (size_at bounds b) z
          ∙ sym (before kh ka (Node h a b) e r ∙ ap (first_of (own_size bounds kh)) (behind b))

      -- two bodies

      twice : (o q r n : Option ℕ) → first_of o (first_of q (first_of r n)) ≡ first_of (first_of o q) (first_of (first_of o r) n)
      twice None q r n = refl
      twice (Some v) q r n = refl

      if_size : (c t e n : Tree) → is_still c ≡ true → size_at bounds (Node If c (Node Cons t (Node Cons e n))) ≡ first_of (size_at bounds t) (first_of (size_at bounds e) (size_at bounds n))
      if_size c t e n s =
          passed If c (Node Cons t (Node Cons e n)) refl refl
          ∙ ap₂ first_of (flat c s) (passed Cons t (Node Cons e n) refl refl ∙ ap (first_of (size_at bounds t)) (passed Cons e n refl refl))

      two_bodies : (c t e n : Tree) → is_still c ≡ true → size_at bounds (Node h a (Node If c (Node Cons t (Node Cons e n)))) ≡ size_at bounds (Node If c (Node Cons (Node h a t) (Node Cons (Node h a e) n)))
      two_bodies c t e n s =
          behind (Node If c (Node Cons t (Node Cons e n))) ∙ ap (first_of own) (if_size c t e n s)
          ∙ twice own (size_at bounds t) (size_at bounds e) (size_at bounds n)
          ∙ sym (if_size c (Node h a t) (Node h a e) n s ∙ ap₂ (λ o q. first_of o (first_of q (size_at bounds n))) (behind t) (behind e))

      -- the branches of a `find`

      module _ (none : own ≡ None) where
        branches_none : (bs : Tree) → size_at bounds bs ≡ size_at bounds (in_branches put bs)
        branches_none (Node Cons (Node Branch us (Node Cons listed (Node Cons c b))) more) =
            under_node bounds Cons (Node Branch us (Node Cons listed (Node Cons c b))) more (Node Branch us (Node Cons listed (Node Cons c (put b)))) (in_branches put more)
            (under_node bounds Branch us (Node Cons listed (Node Cons c b)) us (Node Cons listed (Node Cons c (put b))) refl
            (under_node bounds Cons listed (Node Cons c b) listed (Node Cons c (put b)) refl
            (under_node bounds Cons c b c (put b) refl (sym (behind b ∙ ap (λ o. first_of o (size_at bounds b)) none)))))
            (branches_none more)
        branches_none bs = refl

        find_none : (l : ℕ) (bs e : Tree) → size_at bounds (Node h a (Node (Find l) bs e)) ≡ size_at bounds (Node (Find l) (in_branches put bs) (Node h a e))
        find_none l bs e =
            behind (Node (Find l) bs e) ∙ ap (λ o. first_of o (size_at bounds (Node (Find l) bs e))) none
            ∙ under_node bounds (Find l) bs e (in_branches put bs) (Node h a e) (branches_none bs) (sym (behind e ∙ ap (λ o. first_of o (size_at bounds e)) none))

      module _ (others : (k : Head) → is_other x k ≡ true → own_size bounds k ≡ None) where
        unequal : (y : ℕ) → (x == y) ≡ false → not (y == x) ≡ true
        unequal y e = go (y == x) refl
          where
            go : (b : Bool) → (y == x) ≡ b → not b ≡ true
            go true i = absurd (both_ways (x == y) e (eq-eqb x y (sym (eqb-true y x i))))
            go false i = refl

        binders_size : (us : Tree) → is_phrase Binders us ≡ true → is_bound us x ≡ false → size_at bounds us ≡ None
        unfolding is_phrase is_bound
        binders_size Empty e f = size_empty bounds
        binders_size (Node (Binder y T) i b) e f =
            let p = and_parts (is_phrase Nil i) _ e in
            let q = or_parts (x == y) (is_bound b x) f in
            size_node bounds (Binder y T) i b
            ∙ (λ j. first_of (others (Binder y T) (unequal y q.0) j) (first_of (flat i (nil_still i p.0) j) (binders_size b p.1 q.1 j)))
        binders_size us e f = absurd (both_ways false refl e)

        module _ (v : ℕ) (some : own ≡ Some v) where
          branches_some : (c : ℕ) (bs : Tree) → is_phrase Branches bs ≡ true → first_naming_branch x c bs ≡ None → first_of (size_at bounds (in_branches put bs)) (Some v) ≡ Some v
          unfolding is_phrase
          branches_some c Empty e f = ap (λ o. first_of o (Some v)) (size_empty bounds)
          branches_some c (Node Cons (Node Branch us (Node Cons listed (Node Cons m b))) more) e f =
              let n = branch_unnamed x c us listed m b more f in
              let q = and_parts (is_phrase Arm (Node Branch us (Node Cons listed (Node Cons m b)))) _ e in
              let r = and_parts (is_phrase Binders us) _ q.0 in
              let w = and_parts (is_phrase Cells listed) _ r.1 in
              let z = and_parts (is_phrase Term m) _ w.1 in
              let arm : size_at bounds (Node Branch us (Node Cons listed (Node Cons m (put b)))) ≡ Some v =
              arm_size us listed m (put b) (terms_still Cells listed refl w.0) (term_still m z.0)
              ∙ ap₂ first_of (binders_size us r.0 n.bound) (behind b ∙ ap (λ o. first_of o (size_at bounds b)) some) in
              ap (λ o. first_of o (Some v)) (passed Cons (Node Branch us (Node Cons listed (Node Cons m (put b)))) (in_branches put more) refl refl ∙ ap (λ o. first_of o (size_at bounds (in_branches put more))) arm)
          branches_some c (Node Cons (Node Branch us (Node Cons listed rest)) more) e f = absurd (both_ways false refl (guarded_of us listed rest more e))
          branches_some c (Node Cons (Node Branch us rest) more) e f = absurd (both_ways false refl (guards_of us rest more e))
          branches_some c bs e f = absurd (both_ways false refl e)

          find_some : (l c : ℕ) (bs e : Tree) → is_phrase Branches bs ≡ true → first_naming_branch x c bs ≡ None → size_at bounds (Node h a (Node (Find l) bs e)) ≡ size_at bounds (Node (Find l) (in_branches put bs) (Node h a e))
          find_some l c bs e w f =
              behind (Node (Find l) bs e) ∙ ap (λ o. first_of o (size_at bounds (Node (Find l) bs e))) some
              ∙ sym (
              size_node bounds (Find l) (in_branches put bs) (put e)
              ∙ ap₂ (λ o q. first_of o (first_of (size_at bounds (in_branches put bs)) q)) (others (Find l) refl) (behind e ∙ ap (λ o. first_of o (size_at bounds e)) some)
              ∙ branches_some c bs w f)

      -- whatever the construct is

      module _ (kind : (own ≡ None) ⊎ ((k : Head) → is_other x k ≡ true → own_size bounds k ≡ None)) where
        other : (k : Head) → is_other x k ≡ true → (own ≡ None) ⊎ (own_size bounds k ≡ None)
        other k e = go kind
          where
            go : (own ≡ None) ⊎ ((k : Head) → is_other x k ≡ true → own_size bounds k ≡ None) → (own ≡ None) ⊎ (own_size bounds k ≡ None)
            go (inl n) = inl n
            go (inr f) = inr (f k e)

        find_size : (l c : ℕ) (bs e : Tree) → is_phrase Branches bs ≡ true → first_naming_branch x c bs ≡ None → size_at bounds (Node h a (Node (Find l) bs e)) ≡ size_at bounds (Node (Find l) (in_branches put bs) (Node h a e))
        find_size l c bs e w f = go kind
          where
            go : (own ≡ None) ⊎ ((k : Head) → is_other x k ≡ true → own_size bounds k ≡ None) → size_at bounds (Node h a (Node (Find l) bs e)) ≡ size_at bounds (Node (Find l) (in_branches put bs) (Node h a e))
            go (inl n) = find_none n l bs e
            go (inr others) = by own refl
              where
                by : (o : Option ℕ) → own ≡ o → size_at bounds (Node h a (Node (Find l) bs e)) ≡ size_at bounds (Node (Find l) (in_branches put bs) (Node h a e))
                by None n = find_none n l bs e
                by (Some v) n = find_some others v n l c bs e w f

        construct_size : (c : ℕ) (k : Tree) → has_bodies k ≡ true → first_naming x c k ≡ None → is_phrase Body k ≡ true → size_at bounds (Node h a k) ≡ size_at bounds (in_bodies (Node h a) k)
        unfolding is_phrase
        construct_size c (Node (New y T) ka b) f e w =
            let r = not_here (y == x) c _ e in
            one_body (New y T) ka b (nil_still ka (drawn_of y T ka b w)) refl (other (New y T) (ap not r.0))
        construct_size c (Node (Let y T) m b) f e w =
            let r = not_here (y == x) c _ e in
            one_body (Let y T) m b (term_still m (assigned_of y T m b w)) refl (other (Let y T) (ap not r.0))
        construct_size c (Node (Event z) ms b) f e w = one_body (Event z) ms b (terms_still Terms ms refl (told_of z ms b w)) refl (other (Event z) refl)
        construct_size c (Node If m (Node Cons t (Node Cons o n))) f e w = two_bodies m t o n (term_still m (condition_of m (Node Cons t (Node Cons o n)) w))
        construct_size c (Node If m (Node Cons t rest)) f e w = absurd (both_ways false refl (else_of t rest (then_of m (Node Cons t rest) w)))
        construct_size c (Node If m rest) f e w = absurd (both_ways false refl (then_of m rest w))
        construct_size c (Node (Find l) bs o) f e w = find_size l _ bs o (branches_of l bs o w) e
        construct_size c k f e w = absurd (both_ways false refl f)

-- the cells of experiments

-- a cell of another variable
apart_size : (y z n : ℕ) (u w : List ℕ) → (y == z) ≡ false → size_in ((New_at y u, n) ∷ []) (New_at z w) ≡ None
apart_size y z n u w e = ap (λ b. cond b (Some n) None) (ap (λ b. b && same_tuple u w) e)

module _ (g : Setting) (x : ℕ) where
  other_cells : (z : ℕ) (w : List ℕ) → (z ≡ x) → (k : Head) (u : List ℕ) → is_other x k ≡ true → size_in (cells_at g k u) (New_at z w) ≡ None
  other_cells z w i (New y T) u e = apart_size y z (g.interpretation.type_size T) u w (ap (λ q. y == q) i ∙ not-true (y == x) e)
  other_cells z w i (Key y) u e = absurd (both_ways false refl e)
  other_cells z w i (Call y l) u e = absurd (both_ways false refl e)
  other_cells z w i k u e = refl

  other_tests : (z : ℕ) (d : Cell) → x ≡ z → (k : Head) (u : List ℕ) → is_other x k ≡ true → size_in (test_cells_at g z k u) d ≡ None
  other_tests z d i (New y T) u e = ap (λ b. size_in (if_tested b u (g.interpretation.type_size T)) d) (ap (λ q. y == q) (sym i) ∙ not-true (y == x) e)
  other_tests z d i (Let y T) u e = ap (λ b. size_in (if_tested b u (g.interpretation.type_size T)) d) (ap (λ q. y == q) (sym i) ∙ not-true (y == x) e)
  other_tests z d i (Binder y T) u e = ap (λ b. size_in (if_tested b u (g.interpretation.type_size T)) d) (ap (λ q. y == q) (sym i) ∙ not-true (y == x) e)
  other_tests z d i k u e = refl

  abbrev Kind : (Head → List ℕ → List (Cell × ℕ)) → Cell → List ℕ → Head → Type 0
  Kind give d bounds h = (own_size g give d bounds h ≡ None) ⊎ ((k : Head) → is_other x k ≡ true → own_size g give d bounds k ≡ None)

  drawn_kind : (d : Cell) (bounds : List ℕ) (T : ℕ) → Kind (cells_at g) d bounds (New x T)
  drawn_kind (New_at z w) bounds T = go (x == z) refl
    where
      go : (b : Bool) → (x == z) ≡ b → Kind (cells_at g) (New_at z w) bounds (New x T)
      go true e = inr (λ k f. size_each (cells_at g k) (New_at z w) (λ u. other_cells z w (sym (eqb-true x z e)) k u f) (tuples_below bounds))
      go false e = inl (size_each (cells_at g (New x T)) (New_at z w) (λ u. apart_size x z (g.interpretation.type_size T) u w e) (tuples_below bounds))
  drawn_kind d bounds T = inl (size_each (cells_at g (New x T)) d (λ u. refl) (tuples_below bounds))

  cells_kind : (d : Cell) (bounds : List ℕ) (h : Head) (a b : Tree) → defined (Node h a b) ≡ Some x → Kind (cells_at g) d bounds h
  cells_kind d bounds (New y T) a b e = let i : y ≡ x = cc in subst (λ z. Kind (cells_at g) d bounds (New z T)) (sym i) (drawn_kind d bounds T)
  cells_kind d bounds (Let y T) a b e = inl (size_each (cells_at g (Let y T)) d (λ u. refl) (tuples_below bounds))
  cells_kind d bounds h a b e = absurd (cc)

  tests_kind : (z : ℕ) (d : Cell) (bounds : List ℕ) (h : Head) (a b : Tree) → defined (Node h a b) ≡ Some x → Kind (test_cells_at g z) d bounds h
  tests_kind z d bounds h a b e = go (x == z) refl
    where
      untested : (h : Head) → defined (Node h a b) ≡ Some x → (x == z) ≡ false → (u : List ℕ) → size_in (test_cells_at g z h u) d ≡ None
      untested (New y T) e f u = let i : y ≡ x = cc in ap (λ b. size_in (if_tested b u (g.interpretation.type_size T)) d) (ap (λ q. q == z) i ∙ f)
      untested (Let y T) e f u = let i : y ≡ x = cc in ap (λ b. size_in (if_tested b u (g.interpretation.type_size T)) d) (ap (λ q. q == z) i ∙ f)
      untested h e f u = absurd (cc)

      go : (b : Bool) → (x == z) ≡ b → Kind (test_cells_at g z) d bounds h
      go true f = inr (λ k n. size_each (test_cells_at g z k) d (λ u. other_tests z d (eqb-true x z f) k u n) (tuples_below bounds))
      go false f = inl (size_each (test_cells_at g z h) d (untested h e f) (tuples_below bounds))

definition_bounds : (g : Setting) (bounds : List ℕ) (h : Head) (a b : Tree) (x : ℕ) → defined (Node h a b) ≡ Some x → bounds_under g bounds h ≡ bounds
definition_bounds g bounds (New y T) a b x e = refl
definition_bounds g bounds (Let y T) a b x e = refl
definition_bounds g bounds h a b x e = absurd (cc)

all_sizes : (g : Setting) (m : Mode) (adversary : Adversary) (d : Cell) (game : Tree) → size_in (cells g m adversary game) d ≡ first_of (size_in (at_each_copy g (cells_at g) [] game) d) (first_of (size_in (test_cells g m game) d) (size_in (coin_cells 0 adversary.coins) d))
unfolding cells
all_sizes g m adversary d game =
    size_once (at_each_copy g (cells_at g) [] game ++ (test_cells g m game ++ coin_cells 0 adversary.coins)) d
    ∙ size_append (at_each_copy g (cells_at g) [] game) (test_cells g m game ++ coin_cells 0 adversary.coins) d
    ∙ ap (first_of (size_in (at_each_copy g (cells_at g) [] game) d)) (size_append (test_cells g m game) (coin_cells 0 adversary.coins) d)

-- a definition, and the construct behind it, which names the variable in its bodies alone
pub record MayMove (h : Head) (a construct : Tree) (x c : ℕ) : Type 0 where
  pub defines : defined (Node h a construct) ≡ Some x
  pub bare : is_still a ≡ true
  pub bodies : has_bodies construct ≡ true
  pub unnamed : first_naming x c construct ≡ None
  pub phrase : is_phrase Body construct ≡ true

module _ (g : Setting) (h : Head) (a construct : Tree) (x c : ℕ) (r : MayMove h a construct x c) (place : ℕ) (game next : Tree) (z : IsReplaced (Node h a construct) (in_bodies (Node h a) construct) place runs.Process 0 game next) (d : Cell) where
  same_size : (give : Head → List ℕ → List (Cell × ℕ)) → ((h : Head) (u : List ℕ) → head_is_still h ≡ true → size_in (give h u) d ≡ None) → ((bounds : List ℕ) → Kind g x give d bounds h) → size_in (at_each_copy g give [] game) d ≡ size_in (at_each_copy g give [] next) d
  same_size give still kind =
      replaced_size g give d (Node h a construct) (in_bodies (Node h a) construct) place
      (λ bounds. construct_size g give d still bounds h a x r.bare (definition_bounds g bounds h a construct x r.defines) (kind bounds) c construct r.bodies r.unnamed r.phrase)
      runs.Process 0 [] game next z

  same_tests : (m : Mode) → size_in (test_cells g m game) d ≡ size_in (test_cells g m next) d
  same_tests Events = refl
  same_tests (Real one y) = same_size (test_cells_at g y) (still_tests g y d) (λ bounds. tests_kind g x y d bounds h a construct r.defines)
  same_tests (Random one y) = same_size (test_cells_at g y) (still_tests g y d) (λ bounds. tests_kind g x y d bounds h a construct r.defines)

  pub moved_sizes : (m : Mode) (adversary : Adversary) → size_in (cells g m adversary game) d ≡ size_in (cells g m adversary next) d
  moved_sizes m adversary =
      all_sizes g m adversary d game
      ∙ ap₂ (λ o q. first_of o (first_of q (size_in (coin_cells 0 adversary.coins) d))) (same_size (cells_at g) (still_cells g d) (λ bounds. cells_kind g x d bounds h a construct r.defines)) (same_tests m)
      ∙ sym (all_sizes g m adversary d next)
