-- Terms of a game in its context read ordinary variables, and answers at the current indices.
use Rattle.std.proofs.Common.{◌≡◌, ℕ, ◌+◌, ◌<◌, ◌≤◌, Bool, true, false, not, ◌&&◌, ◌||◌, ◌==◌, List, [], ◌∷◌, ◌++◌, ◌⊎◌, inl, inr, length, is_some, Option, Some, None, refl, sym, ap, ap₂, subst, ◌∙◌, eqb-true, eq-eqb, arith}
use Rattle.std.proofs.lemmas.Bool.{and_parts, both_ways, or_left, or_right}
use Rattle.std.proofs.lemmas.List.{length-append}
use Rattle.cv_syntax_trees.specs.declared.head.Head.{Head}
use Rattle.cv_syntax_trees.specs.declared.head.Head.TheVariants.{Leaf, Read, Apply, Eq, And, Or, Not, Yes, No, Cons}
use Rattle.cv_syntax_trees.specs.Tree.{Tree, Empty, Node, first_place, head_reads_only, reads_only, second_place}
use Rattle.cv_scope_rules.specs.Context.{cell_of, first_position, replications_below, second_position}
use Rattle.cv_scope_rules.specs.Phrases.{Cells, OneCell, Term, Terms, is_phrase}
use Rattle.cv_scope_rules.specs.declared.position.Position.TheVariants as position
use Rattle.cv_scene.specs.Scenes.{names}
use Rattle.cv_scene.specs.Instances.{Call, call_at}
use Rattle.cv_scene.specs.Sites.{Site, sites_in}
use Rattle.cv_scene.specs.Reductions.{Reduction, is_plain, matching}
use Rattle.cv_scene.specs.Apt.{are_cells_apt, has_value, reads_outside}
use Rattle.cv_match_laws.proofs.values.Numbers.{context, count_sites}
use Rattle.cv_meaning.specs.contexts.Inlined.{index_terms}
use Rattle.cv_inline_laws.specs.runs.Contexts.{Answers, AreCells, AreFineIn, IsAnswer, IsFineIn, ordinary_in}
use Rattle.cv_inline_laws.specs.runs.Texts.{Text}
use Rattle.cv_context_runs.specs.visits.Fine.{has_free_indices, has_no_call}
use Rattle.cv_context_runs.proofs.visits.Nodes.{by_call, empty_in, node_by, node_in, plain_node, terms_stay}

-- the names of a tree, beside the key, coins and answers, are ordinary
abbrev pub AreOrdinary : Text → Reduction → Tree → Type 0
AreOrdinary T r t = (x : ℕ) → names x t ≡ true → is_plain r x ≡ true → ordinary_in T x ≡ true

pub children_ordinary : (T : Text) (r : Reduction) (h : Head) (a b : Tree) → AreOrdinary T r (Node h a b) → AreOrdinary T r a × AreOrdinary T r b
unfolding names
children_ordinary T r h a b o = (λ x e. o x (or_right _ _ (or_left (names x a) (names x b) e)), λ x e. o x (or_right _ _ (or_right (names x a) (names x b) e)))

leaf_ordinary : (T : Text) (r : Reduction) (x : ℕ) (a b : Tree) → AreOrdinary T r (Node (Leaf x) a b) → is_plain r x ≡ true → ordinary_in T x ≡ true
unfolding names
leaf_ordinary T r x a b o e = o x (or_left (x == x) (names x a || names x b) (eq-eqb x x refl)) e

read_ordinary : (T : Text) (r : Reduction) (x : ℕ) (a b : Tree) → AreOrdinary T r (Node (Read x) a b) → is_plain r x ≡ true → ordinary_in T x ≡ true
unfolding names
read_ordinary T r x a b o e = o x (or_left (x == x) (names x a || names x b) (eq-eqb x x refl)) e

pub all_ordinary : (T : Text) (r : Reduction) (t : Tree) → AreOrdinary T r t → reads_only (is_plain r) t ≡ true → reads_only (ordinary_in T) t ≡ true
unfolding reads_only
all_ordinary T r Empty o e = refl
all_ordinary T r (Node h a b) o e =
    let p = and_parts (head_reads_only (is_plain r) h) _ e in
    let q = and_parts (reads_only (is_plain r) a) (reads_only (is_plain r) b) p.1 in
    let c = children_ordinary T r h a b o in
    ap₂ ◌&&◌ (here h o p.0) (ap₂ ◌&&◌ (all_ordinary T r a c.0 q.0) (all_ordinary T r b c.1 q.1))
  where
    here : (h : Head) → AreOrdinary T r (Node h a b) → head_reads_only (is_plain r) h ≡ true → head_reads_only (ordinary_in T) h ≡ true
    here (Leaf x) o e = leaf_ordinary T r x a b o e
    here (Read x) o e = read_ordinary T r x a b o e
    here h o e = refl

-- no instance: what is read outside is all that is read
only_outside : (r : Reduction) (t : Tree) → has_no_call (matching r) t ≡ true → reads_outside (matching r) (is_plain r) t ≡ true → reads_only (is_plain r) t ≡ true
unfolding has_no_call reads_outside reads_only
only_outside r Empty f e = refl
only_outside r (Node h a b) f e =
    let p = and_parts (not (is_some (call_at (matching r) (Node h a b)))) _ f in
    let q = and_parts (has_no_call (matching r) a) (has_no_call (matching r) b) p.1 in
    go (is_some (call_at (matching r) (Node h a b))) p.0 e (only_outside r a q.0) (only_outside r b q.1)
  where
    go : (c : Bool) → not c ≡ true → (c || (head_reads_only (is_plain r) h && (reads_outside (matching r) (is_plain r) a && reads_outside (matching r) (is_plain r) b))) ≡ true
        → (reads_outside (matching r) (is_plain r) a ≡ true → reads_only (is_plain r) a ≡ true) → (reads_outside (matching r) (is_plain r) b ≡ true → reads_only (is_plain r) b ≡ true)
        → (head_reads_only (is_plain r) h && (reads_only (is_plain r) a && reads_only (is_plain r) b)) ≡ true
    go true n e ia ib = absurd (both_ways _ refl n)
    go false n e ia ib =
        let p = and_parts (head_reads_only (is_plain r) h) _ e in
        let q = and_parts (reads_outside (matching r) (is_plain r) a) _ p.1 in ap₂ ◌&&◌ p.0 (ap₂ ◌&&◌ (ia q.0) (ib q.1))

module _ (T : Text) (r : Reduction) (o : Answers) where
  -- terms that are all plain, as conditions are

  mutual
    unfolding is_phrase reads_only IsFineIn

    pub plain_fine : (t : Tree) → AreOrdinary T r t → is_phrase Term t ≡ true → reads_only (is_plain r) t ≡ true → IsFineIn T o t
    plain_fine Empty d e f = tt
    plain_fine (Node (Leaf x) a b) d e f = inl (leaf_ordinary T r x a b d (and_parts (is_plain r x) _ f).0)
    plain_fine (Node (Read x) a b) d e f =
        let p = and_parts (is_plain r x) _ f in
        inl (read_ordinary T r x a b d p.0, all_ordinary T r a (children_ordinary T r (Read x) a b d).0 (and_parts (reads_only (is_plain r) a) _ p.1).0)
    plain_fine (Node (Apply h) a b) d e f = plains_fine a (children_ordinary T r (Apply h) a b d).0 (and_parts (is_phrase Terms a) _ e).0 (and_parts (reads_only (is_plain r) a) _ f).0
    plain_fine (Node Eq a b) d e f =
        let p = and_parts (is_phrase Term a) _ e in
        let q = and_parts (reads_only (is_plain r) a) _ f in
        let c = children_ordinary T r Eq a b d in (plain_fine a c.0 p.0 q.0, plain_fine b c.1 p.1 q.1)
    plain_fine (Node And a b) d e f =
        let p = and_parts (is_phrase Term a) _ e in
        let q = and_parts (reads_only (is_plain r) a) _ f in
        let c = children_ordinary T r And a b d in (plain_fine a c.0 p.0 q.0, plain_fine b c.1 p.1 q.1)
    plain_fine (Node Or a b) d e f =
        let p = and_parts (is_phrase Term a) _ e in
        let q = and_parts (reads_only (is_plain r) a) _ f in
        let c = children_ordinary T r Or a b d in (plain_fine a c.0 p.0 q.0, plain_fine b c.1 p.1 q.1)
    plain_fine (Node Not a b) d e f = plain_fine a (children_ordinary T r Not a b d).0 (and_parts (is_phrase Term a) _ e).0 (and_parts (reads_only (is_plain r) a) _ f).0
    plain_fine (Node Yes a b) d e f = tt
    plain_fine (Node No a b) d e f = tt
    plain_fine (Node h a b) d e f = absurd (both_ways _ refl e)

    plains_fine : (t : Tree) → AreOrdinary T r t → is_phrase Terms t ≡ true → reads_only (is_plain r) t ≡ true → AreFineIn T o t
    plains_fine Empty d e f = tt
    plains_fine (Node Cons a b) d e f =
        let p = and_parts (is_phrase Term a) _ e in
        let q = and_parts (reads_only (is_plain r) a) _ f in
        let c = children_ordinary T r Cons a b d in (plain_fine a c.0 p.0 q.0, plains_fine b c.1 p.1 q.1)
    plains_fine (Node h a b) d e f = absurd (both_ways _ refl e)

  module _ (rs : List (ℕ × ℕ)) where
    -- the answers from a number on, up to another
    abbrev pub HasFrom : ℕ → ℕ → Type 0
    HasFrom j k = (i : ℕ) → j ≤ i → i < k → IsAnswer o (r.answer i) (index_terms rs)

    abbrev here : ℕ → Tree → Tree
    here j t = context r position.Anywhere rs j t

    abbrev sites_here : Tree → List Site
    sites_here t = sites_in (matching r) position.Anywhere rs 0 t

    cell_fine : (j : ℕ) (rs : List (ℕ × ℕ)) → IsAnswer o (r.answer j) (index_terms rs) → IsFineIn T o (cell_of rs (r.answer j))
    unfolding IsFineIn
    cell_fine j [] h = inr h
    cell_fine j (x ∷ xs) h = inr h

    abbrev count_by : Option Call → ℕ → ℕ
    count_by (Some c) n = 1
    count_by None n = n

    count_node : (h : Head) (a b : Tree) → first_position position.Anywhere h ≡ position.Anywhere → second_position position.Anywhere h ≡ position.Anywhere → replications_below h rs ≡ rs
        → length (sites_here (Node h a b)) ≡ count_by (call_at (matching r) (Node h a b)) (length (sites_here a) + length (sites_here b))
    unfolding sites_in
    count_node h a b f g e = go (call_at (matching r) (Node h a b))
      where
        first : List Site
        first = sites_in (matching r) (first_position position.Anywhere h) rs (first_place 0 h) a

        second : List Site
        second = sites_in (matching r) (second_position position.Anywhere h) (replications_below h rs) (second_place 0 h a) b

        first_count : length first ≡ length (sites_here a)
        first_count = ap (λ w. length (sites_in (matching r) w rs (first_place 0 h) a)) f ∙ count_sites (matching r) position.Anywhere rs a (first_place 0 h) 0

        second_count : length second ≡ length (sites_here b)
        second_count = ap₂ (λ w qs. length (sites_in (matching r) w qs (second_place 0 h a) b)) g e ∙ count_sites (matching r) position.Anywhere rs b (second_place 0 h a) 0

        go : (o : Option Call) → length (elim o as (λ _. List Site) [ Some c ↦ record { place = 0; term = Node h a b; replications = rs; call = c } ∷ [] | None ↦ first ++ second ]) ≡ count_by o (length (sites_here a) + length (sites_here b))
        go (Some c) = refl
        go None = length-append first second ∙ ap₂ ◌+◌ first_count second_count

    fewer : (j k n : ℕ) → n ≤ k → HasFrom j k → HasFrom j n
    fewer j k n l h = λ i u v. h i u (let w : i < k = omega arith in w)

    later : (j k n : ℕ) → j ≤ n → HasFrom j k → HasFrom n k
    later j k n l h = λ i u v. h i (let w : j ≤ i = omega arith in w) v

    outside_parts : (h : Head) (a b : Tree) → call_at (matching r) (Node h a b) ≡ None → reads_outside (matching r) (is_plain r) (Node h a b) ≡ true
        → (head_reads_only (is_plain r) h ≡ true) × (reads_outside (matching r) (is_plain r) a ≡ true) × (reads_outside (matching r) (is_plain r) b ≡ true)
    unfolding reads_outside
    outside_parts h a b n e =
        let p = and_parts (head_reads_only (is_plain r) h) _ (sym (ap (λ c. is_some c || (head_reads_only (is_plain r) h && (reads_outside (matching r) (is_plain r) a && reads_outside (matching r) (is_plain r) b))) n) ∙ e) in
        let q = and_parts (reads_outside (matching r) (is_plain r) a) _ p.1 in (p.0, q.0, q.1)

    -- a node that is an instance, or none
    at_node : (h : Head) (a b : Tree) (j : ℕ) → first_position position.Anywhere h ≡ position.Anywhere → second_position position.Anywhere h ≡ position.Anywhere → replications_below h rs ≡ rs
        → HasFrom j (j + length (sites_here (Node h a b)))
        → (call_at (matching r) (Node h a b) ≡ None → HasFrom j (j + length (sites_here a)) → HasFrom (j + length (sites_here a)) (j + length (sites_here a) + length (sites_here b)) → IsFineIn T o (plain_node r position.Anywhere rs j h a b))
        → IsFineIn T o (here j (Node h a b))
    at_node h a b j f g e has fine = subst (IsFineIn T o) (sym (node_by r position.Anywhere rs j h a b)) (go (call_at (matching r) (Node h a b)) refl (count_node h a b f g e))
      where
        go : (c : Option Call) → call_at (matching r) (Node h a b) ≡ c → length (sites_here (Node h a b)) ≡ count_by c (length (sites_here a) + length (sites_here b)) → IsFineIn T o (by_call c (cell_of rs (r.answer j)) (plain_node r position.Anywhere rs j h a b))
        go (Some c) q n = cell_fine j rs (has j (let w : j ≤ j = omega arith in w) (let w : j < j + length (sites_here (Node h a b)) = omega (arith, n) in w))
        go None q n =
            fine q (fewer j (j + length (sites_here (Node h a b))) (j + length (sites_here a)) (let w : j + length (sites_here a) ≤ j + length (sites_here (Node h a b)) = omega (arith, n) in w) has)
            (fewer (j + length (sites_here a)) (j + length (sites_here (Node h a b))) (j + length (sites_here a) + length (sites_here b)) (let w : j + length (sites_here a) + length (sites_here b) ≤ j + length (sites_here (Node h a b)) = omega (arith, n) in w)
            (later j (j + length (sites_here (Node h a b))) (j + length (sites_here a)) (let w : j ≤ j + length (sites_here a) = omega arith in w) has))

    list_node : (terms : (t : Tree) → has_value t ≡ false → call_at (matching r) t ≡ None) (a b : Tree) (j : ℕ) → HasFrom j (j + length (sites_here (Node Cons a b)))
        → HasFrom j (j + length (sites_here a)) × HasFrom (j + length (sites_here a)) (j + length (sites_here a) + length (sites_here b))
    list_node terms a b j has =
        let n : length (sites_here (Node Cons a b)) ≡ length (sites_here a) + length (sites_here b) = count_node Cons a b refl refl refl ∙ ap (λ c. count_by c (length (sites_here a) + length (sites_here b))) (terms (Node Cons a b) refl) in (
          fewer j (j + length (sites_here (Node Cons a b))) (j + length (sites_here a)) (let w : j + length (sites_here a) ≤ j + length (sites_here (Node Cons a b)) = omega (arith, n) in w) has,
          fewer (j + length (sites_here a)) (j + length (sites_here (Node Cons a b))) (j + length (sites_here a) + length (sites_here b)) (let w : j + length (sites_here a) + length (sites_here b) ≤ j + length (sites_here (Node Cons a b)) = omega (arith, n) in w)
              (later j (j + length (sites_here (Node Cons a b))) (j + length (sites_here a)) (let w : j ≤ j + length (sites_here a) = omega arith in w) has),
        )

    module _ (terms : (t : Tree) → has_value t ≡ false → call_at (matching r) t ≡ None) where
      mutual
        unfolding is_phrase IsFineIn has_free_indices

        pub term_fine : (t : Tree) (j : ℕ) → AreOrdinary T r t → is_phrase Term t ≡ true → reads_outside (matching r) (is_plain r) t ≡ true → has_free_indices (matching r) t ≡ true → HasFrom j (j + length (sites_here t)) → IsFineIn T o (here j t)
        term_fine Empty j d e f g has = absurd (both_ways _ refl e)
        term_fine (Node (Leaf x) a b) j d e f g has = at_node (Leaf x) a b j refl refl refl has (λ n k l. inl (leaf_ordinary T r x a b d (outside_parts (Leaf x) a b n f).0))
        term_fine (Node (Read x) a b) j d e f g has =
            let free = (and_parts (has_no_call (matching r) a) _ g).0 in
            at_node (Read x) a b j refl refl refl has (λ n k l.
            let s = outside_parts (Read x) a b n f in
            inl (
              read_ordinary T r x a b d s.0,
              ap (reads_only (ordinary_in T)) (terms_stay r rs j a (and_parts (is_phrase Terms a) _ e).0 free) ∙ all_ordinary T r a (children_ordinary T r (Read x) a b d).0 (only_outside r a free s.1),
            ))
        term_fine (Node (Apply h) a b) j d e f g has =
            at_node (Apply h) a b j refl refl refl has (λ n k l. terms_fine a j (children_ordinary T r (Apply h) a b d).0 (and_parts (is_phrase Terms a) _ e).0 (outside_parts (Apply h) a b n f).1 (and_parts (has_free_indices (matching r) a) _ g).0 k)
        term_fine (Node Eq a b) j d e f g has =
            let p = and_parts (is_phrase Term a) _ e in
            let q = and_parts (has_free_indices (matching r) a) _ g in
            let c = children_ordinary T r Eq a b d in
            at_node Eq a b j refl refl refl has (λ n k l. let s = outside_parts Eq a b n f in (term_fine a j c.0 p.0 s.1 q.0 k, term_fine b (j + length (sites_here a)) c.1 p.1 s.2 q.1 l))
        term_fine (Node And a b) j d e f g has =
            let p = and_parts (is_phrase Term a) _ e in
            let q = and_parts (has_free_indices (matching r) a) _ g in
            let c = children_ordinary T r And a b d in
            at_node And a b j refl refl refl has (λ n k l. let s = outside_parts And a b n f in (term_fine a j c.0 p.0 s.1 q.0 k, term_fine b (j + length (sites_here a)) c.1 p.1 s.2 q.1 l))
        term_fine (Node Or a b) j d e f g has =
            let p = and_parts (is_phrase Term a) _ e in
            let q = and_parts (has_free_indices (matching r) a) _ g in
            let c = children_ordinary T r Or a b d in
            at_node Or a b j refl refl refl has (λ n k l. let s = outside_parts Or a b n f in (term_fine a j c.0 p.0 s.1 q.0 k, term_fine b (j + length (sites_here a)) c.1 p.1 s.2 q.1 l))
        term_fine (Node Not a b) j d e f g has =
            at_node Not a b j refl refl refl has (λ n k l. term_fine a j (children_ordinary T r Not a b d).0 (and_parts (is_phrase Term a) _ e).0 (outside_parts Not a b n f).1 (and_parts (has_free_indices (matching r) a) _ g).0 k)
        term_fine (Node Yes a b) j d e f g has = at_node Yes a b j refl refl refl has (λ n k l. tt)
        term_fine (Node No a b) j d e f g has = at_node No a b j refl refl refl has (λ n k l. tt)
        term_fine (Node h a b) j d e f g has = absurd (both_ways _ refl e)

        pub terms_fine : (t : Tree) (j : ℕ) → AreOrdinary T r t → is_phrase Terms t ≡ true → reads_outside (matching r) (is_plain r) t ≡ true → has_free_indices (matching r) t ≡ true → HasFrom j (j + length (sites_here t)) → AreFineIn T o (here j t)
        terms_fine Empty j d e f g has = subst (AreFineIn T o) (sym (empty_in r position.Anywhere rs j)) tt
        terms_fine (Node Cons a b) j d e f g has =
            let p = and_parts (is_phrase Term a) _ e in
            let q = and_parts (has_free_indices (matching r) a) _ g in
            let c = children_ordinary T r Cons a b d in
            let s = outside_parts Cons a b (terms (Node Cons a b) refl) f in
            let h = list_node terms a b j has in
            subst (AreFineIn T o) (sym (node_in r terms position.Anywhere rs j Cons a b refl)) (term_fine a j c.0 p.0 s.1 q.0 h.0, terms_fine b (j + length (sites_here a)) c.1 p.1 s.2 q.1 h.1)
        terms_fine (Node h a b) j d e f g has = absurd (both_ways _ refl e)

      -- those of a message, behind its indices
      pub message_fine : (x ms : Tree) (j : ℕ) → AreOrdinary T r (Node Cons x ms) → is_phrase Terms ms ≡ true → reads_outside (matching r) (is_plain r) (Node Cons x ms) ≡ true → has_free_indices (matching r) (Node Cons x ms) ≡ true
          → HasFrom j (j + length (sites_here (Node Cons x ms))) → AreFineIn T o (here (j + length (sites_here x)) ms)
      unfolding has_free_indices
      message_fine x ms j d e f g has =
          terms_fine ms (j + length (sites_here x)) (children_ordinary T r Cons x ms d).1 e (outside_parts Cons x ms (terms (Node Cons x ms) refl) f).2 (and_parts (has_free_indices (matching r) x) _ g).1 (list_node terms x ms j has).1

-- cells of lists
pub cells_fine : (T : Text) (r : Reduction) → T.calls.key ≡ r.key → (cells : Tree) → AreOrdinary T r cells → is_phrase Cells cells ≡ true → are_cells_apt r cells ≡ true → AreCells T cells
unfolding is_phrase are_cells_apt AreCells
cells_fine T r k Empty d e f = tt
cells_fine T r k (Node Cons (Node (Leaf x) a b) more) d e f =
    let p = and_parts (is_phrase OneCell (Node (Leaf x) a b)) _ e in
    let q = and_parts (is_plain r x || (x == r.key)) _ f in
    let c = children_ordinary T r Cons (Node (Leaf x) a b) more d in (either (is_plain r x) q.0 (leaf_ordinary T r x a b c.0), cells_fine T r k more c.1 p.1 q.1)
  where
    either : (z : Bool) → (z || (x == r.key)) ≡ true → (z ≡ true → ordinary_in T x ≡ true) → (ordinary_in T x ≡ true) ⊎ (x ≡ T.calls.key)
    either true e h = inl (h refl)
    either false e h = inr (eqb-true x r.key e ∙ sym k)
cells_fine T r k (Node Cons (Node (Read x) a b) more) d e f =
    let p = and_parts (is_phrase OneCell (Node (Read x) a b)) _ e in
    let q = and_parts ((is_plain r x || (x == r.key)) && reads_only (is_plain r) a) _ f in
    let s = and_parts (is_plain r x || (x == r.key)) (reads_only (is_plain r) a) q.0 in
    let c = children_ordinary T r Cons (Node (Read x) a b) more d in
    (either (is_plain r x) s.0 (read_ordinary T r x a b c.0), all_ordinary T r a (children_ordinary T r (Read x) a b c.0).0 s.1, cells_fine T r k more c.1 p.1 q.1)
  where
    either : (z : Bool) → (z || (x == r.key)) ≡ true → (z ≡ true → ordinary_in T x ≡ true) → (ordinary_in T x ≡ true) ⊎ (x ≡ T.calls.key)
    either true e h = inl (h refl)
    either false e h = inr (eqb-true x r.key e ∙ sym k)
cells_fine T r k (Node Cons t more) d e f = absurd (both_ways _ refl (and_parts (is_phrase OneCell t) (is_phrase Cells more) e).0)
cells_fine T r k (Node h a more) d e f = absurd (both_ways _ refl e)
