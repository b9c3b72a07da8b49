-- Terms of a game in its context become the same in its next game, whatever the answers are called.
use Rattle.std.proofs.Common.{◌≡◌, ℕ, ◌+◌, ◌<◌, ◌≤◌, true, false, ◌||◌, ◌==◌, List, [], ◌∷◌, ◌++◌, length, Option, Some, None, refl, sym, ap, ap₂, ◌∙◌, eq-eqb, arith}
use Rattle.std.proofs.lemmas.Bool.{and_parts, both_ways, or_left, or_right}
use Rattle.std.proofs.lemmas.List.{length-append}
use Rattle.cv_syntax_trees.specs.declared.head.Head.{Head}
use Rattle.cv_syntax_trees.specs.declared.head.Head.TheVariants.{Leaf, Read, Apply, Eq, And, Or, Not, Yes, No, Cons, Name}
use Rattle.cv_syntax_trees.specs.Tree.{Tree, Empty, Node, first_place, second_place}
use Rattle.cv_scope_rules.specs.Context.{cell_of, first_position, replications_below, second_position}
use Rattle.cv_scope_rules.specs.Phrases.{Indices, Message, Nil, Term, Terms, is_phrase}
use Rattle.cv_scope_rules.specs.declared.position.Position.TheVariants as position
use Rattle.cv_scene.specs.Scenes.{names}
use Rattle.cv_scene.specs.Instances.{Call, call_at}
use Rattle.cv_scene.specs.Sites.{Site, sites_in}
use Rattle.cv_scene.specs.Reductions.{Reduction, matching}
use Rattle.cv_scene.specs.Apt.{has_value}
use Rattle.cv_match_laws.proofs.values.Numbers.{context, count_sites}
use Rattle.cv_inline.specs.NextGame.{Results, result_for, with_results}
use Rattle.cv_context_runs.specs.visits.Fine.{has_free_indices, has_no_call}
use Rattle.cv_context_runs.proofs.visits.Nodes.{by_call, empty_in, names_in, nil_in, node_by, plain_node, terms_stay}
use Rattle.cv_context_laws.specs.next_games.Answers.{with_answers}
use Rattle.cv_context_laws.proofs.next_games.Results.{AreAlike}

module _ (r : Reduction) (g : ℕ → ℕ) (o p : Results) where
  abbrev q : Reduction
  q = with_answers r g

  -- no name of the tree is an answer
  abbrev pub AreKept : Tree → Type 0
  AreKept t = (x : ℕ) → names x t ≡ true → (d : Tree) → (result_for o x d ≡ d) × (result_for p x d ≡ d)

  pub children_kept : (h : Head) (a b : Tree) → AreKept (Node h a b) → AreKept a × AreKept b
  unfolding names
  children_kept h a b k = (λ x e. k x (or_right _ _ (or_left (names x a) (names x b) e)), λ x e. k x (or_right _ _ (or_right (names x a) (names x b) e)))

  leaf_kept : (x : ℕ) (a b : Tree) → AreKept (Node (Leaf x) a b) → (d : Tree) → (result_for o x d ≡ d) × (result_for p x d ≡ d)
  unfolding names
  leaf_kept x a b k d = k x (or_left (x == x) (names x a || names x b) (eq-eqb x x refl)) d

  read_kept : (x : ℕ) (a b : Tree) → AreKept (Node (Read x) a b) → (d : Tree) → (result_for o x d ≡ d) × (result_for p x d ≡ d)
  unfolding names
  read_kept x a b k d = k x (or_left (x == x) (names x a || names x b) (eq-eqb x x refl)) d

  module _ (rs : List (ℕ × ℕ)) where
    -- the results from a number on, up to another
    abbrev pub HasFrom : ℕ → ℕ → Type 0
    HasFrom j k = (i : ℕ) → j ≤ i → i < k → AreAlike r.answer g o p i

    abbrev pub here : ℕ → Tree → Tree
    here j t = context r position.Anywhere rs j t

    abbrev pub there : ℕ → Tree → Tree
    there j t = context q position.Anywhere rs j t

    abbrev pub sites_here : Tree → List Site
    sites_here t = sites_in (matching r) position.Anywhere rs 0 t

    abbrev pub Same : ℕ → Tree → Type 0
    Same j t = with_results o (here j t) ≡ with_results p (there j t)

    cell_same : (j : ℕ) (rs : List (ℕ × ℕ)) → AreAlike r.answer g o p j → with_results o (cell_of rs (r.answer j)) ≡ with_results p (cell_of rs (g j))
    unfolding with_results
    cell_same j [] h = h.first _ ∙ sym (h.second _)
    cell_same j (x ∷ xs) h = h.first _ ∙ sym (h.second _)

    abbrev count_by : Option Call → ℕ → ℕ
    count_by (Some c) n = 1
    count_by None n = n

    count_node : (h : Head) (a b : Tree) → first_position position.Anywhere h ≡ position.Anywhere → second_position position.Anywhere h ≡ position.Anywhere → replications_below h rs ≡ rs
        → length (sites_here (Node h a b)) ≡ count_by (call_at (matching r) (Node h a b)) (length (sites_here a) + length (sites_here b))
    unfolding sites_in
    count_node h a b f k e = go (call_at (matching r) (Node h a b))
      where
        first : List Site
        first = sites_in (matching r) (first_position position.Anywhere h) rs (first_place 0 h) a

        second : List Site
        second = sites_in (matching r) (second_position position.Anywhere h) (replications_below h rs) (second_place 0 h a) b

        first_count : length first ≡ length (sites_here a)
        first_count = ap (λ w. length (sites_in (matching r) w rs (first_place 0 h) a)) f ∙ count_sites (matching r) position.Anywhere rs a (first_place 0 h) 0

        second_count : length second ≡ length (sites_here b)
        second_count = ap₂ (λ w qs. length (sites_in (matching r) w qs (second_place 0 h a) b)) k e ∙ count_sites (matching r) position.Anywhere rs b (second_place 0 h a) 0

        go : (c : Option Call) → length (elim c as (λ _. List Site) [ Some c ↦ record { place = 0; term = Node h a b; replications = rs; call = c } ∷ [] | None ↦ first ++ second ]) ≡ count_by c (length (sites_here a) + length (sites_here b))
        go (Some c) = refl
        go None = length-append first second ∙ ap₂ ◌+◌ first_count second_count

    fewer : (j k n : ℕ) → n ≤ k → HasFrom j k → HasFrom j n
    fewer j k n l h = λ i u v. h i u (let w : i < k = omega arith in w)

    later : (j k n : ℕ) → j ≤ n → HasFrom j k → HasFrom n k
    later j k n l h = λ i u v. h i (let w : j ≤ i = omega arith in w) v

    -- a node that is an instance, or none
    at_node : (h : Head) (a b : Tree) (j : ℕ) → first_position position.Anywhere h ≡ position.Anywhere → second_position position.Anywhere h ≡ position.Anywhere → replications_below h rs ≡ rs
        → HasFrom j (j + length (sites_here (Node h a b)))
        → (HasFrom j (j + length (sites_here a)) → HasFrom (j + length (sites_here a)) (j + length (sites_here a) + length (sites_here b)) → with_results o (plain_node r position.Anywhere rs j h a b) ≡ with_results p (plain_node q position.Anywhere rs j h a b))
        → Same j (Node h a b)
    at_node h a b j f k e has same =
        ap (with_results o) (node_by r position.Anywhere rs j h a b) ∙ go (call_at (matching r) (Node h a b)) (count_node h a b f k e) ∙ sym (ap (with_results p) (node_by q position.Anywhere rs j h a b))
      where
        go : (c : Option Call) → length (sites_here (Node h a b)) ≡ count_by c (length (sites_here a) + length (sites_here b))
            → with_results o (by_call c (cell_of rs (r.answer j)) (plain_node r position.Anywhere rs j h a b)) ≡ with_results p (by_call c (cell_of rs (g j)) (plain_node q position.Anywhere rs j h a b))
        go (Some c) n = cell_same j rs (has j (let w : j ≤ j = omega arith in w) (let w : j < j + length (sites_here (Node h a b)) = omega (arith, n) in w))
        go None n =
            same (fewer j (j + length (sites_here (Node h a b))) (j + length (sites_here a)) (let w : j + length (sites_here a) ≤ j + length (sites_here (Node h a b)) = omega (arith, n) in w) has)
            (fewer (j + length (sites_here a)) (j + length (sites_here (Node h a b))) (j + length (sites_here a) + length (sites_here b)) (let w : j + length (sites_here a) + length (sites_here b) ≤ j + length (sites_here (Node h a b)) = omega (arith, n) in w)
            (later j (j + length (sites_here (Node h a b))) (j + length (sites_here a)) (let w : j ≤ j + length (sites_here a) = omega arith in w) has))

    nil_same : (a : Tree) (j : ℕ) → is_phrase Nil a ≡ true → Same j a
    unfolding is_phrase with_results
    nil_same Empty j e = ap (with_results o) (empty_in r position.Anywhere rs j) ∙ sym (ap (with_results p) (empty_in q position.Anywhere rs j))
    nil_same (Node h a b) j e = absurd (both_ways false refl e)

    mutual
      unfolding is_phrase has_free_indices with_results

      pub term_same : (t : Tree) (j : ℕ) → AreKept t → is_phrase Term t ≡ true → has_free_indices (matching r) t ≡ true → HasFrom j (j + length (sites_here t)) → Same j t
      term_same Empty j d e f has = absurd (both_ways _ refl e)
      term_same (Node (Leaf x) a b) j d e f has =
          let n = and_parts (is_phrase Nil a) _ e in
          at_node (Leaf x) a b j refl refl refl has (λ k l. (leaf_kept x a b d _).0 ∙ ap₂ (Node (Leaf x)) (nil_in r rs j a n.0 ∙ sym (nil_in q rs j a n.0)) (nil_in r rs _ b n.1 ∙ sym (nil_in q rs _ b n.1)) ∙ sym (leaf_kept x a b d _).1)
      term_same (Node (Read x) a b) j d e f has =
          let n = and_parts (is_phrase Terms a) _ e in
          let free = (and_parts (has_no_call (matching r) a) _ f).0 in
          at_node (Read x) a b j refl refl refl has (λ k l. (read_kept x a b d _).0 ∙ ap₂ (Node (Read x)) (terms_stay r rs j a n.0 free ∙ sym (terms_stay q rs j a n.0 free)) (nil_in r rs _ b n.1 ∙ sym (nil_in q rs _ b n.1)) ∙ sym (read_kept x a b d _).1)
      term_same (Node (Apply h) a b) j d e f has =
          let n = and_parts (is_phrase Terms a) _ e in
          let c = children_kept (Apply h) a b d in
          at_node (Apply h) a b j refl refl refl has (λ k l. ap₂ (Node (Apply h)) (terms_same a j c.0 n.0 (and_parts (has_free_indices (matching r) a) _ f).0 k) (nil_same b _ n.1))
      term_same (Node Eq a b) j d e f has =
          let n = and_parts (is_phrase Term a) _ e in
          let m = and_parts (has_free_indices (matching r) a) _ f in
          let c = children_kept Eq a b d in
          at_node Eq a b j refl refl refl has (λ k l. ap₂ (Node Eq) (term_same a j c.0 n.0 m.0 k) (term_same b (j + length (sites_here a)) c.1 n.1 m.1 l))
      term_same (Node And a b) j d e f has =
          let n = and_parts (is_phrase Term a) _ e in
          let m = and_parts (has_free_indices (matching r) a) _ f in
          let c = children_kept And a b d in
          at_node And a b j refl refl refl has (λ k l. ap₂ (Node And) (term_same a j c.0 n.0 m.0 k) (term_same b (j + length (sites_here a)) c.1 n.1 m.1 l))
      term_same (Node Or a b) j d e f has =
          let n = and_parts (is_phrase Term a) _ e in
          let m = and_parts (has_free_indices (matching r) a) _ f in
          let c = children_kept Or a b d in
          at_node Or a b j refl refl refl has (λ k l. ap₂ (Node Or) (term_same a j c.0 n.0 m.0 k) (term_same b (j + length (sites_here a)) c.1 n.1 m.1 l))
      term_same (Node Not a b) j d e f has =
          let n = and_parts (is_phrase Term a) _ e in
          let c = children_kept Not a b d in
          at_node Not a b j refl refl refl has (λ k l. ap₂ (Node Not) (term_same a j c.0 n.0 (and_parts (has_free_indices (matching r) a) _ f).0 k) (nil_same b _ n.1))
      term_same (Node Yes a b) j d e f has =
          let n = and_parts (is_phrase Nil a) _ e in at_node Yes a b j refl refl refl has (λ k l. ap₂ (Node Yes) (nil_same a j n.0) (nil_same b _ n.1))
      term_same (Node No a b) j d e f has =
          let n = and_parts (is_phrase Nil a) _ e in at_node No a b j refl refl refl has (λ k l. ap₂ (Node No) (nil_same a j n.0) (nil_same b _ n.1))
      term_same (Node h a b) j d e f has = absurd (both_ways _ refl e)

      pub terms_same : (t : Tree) (j : ℕ) → AreKept t → is_phrase Terms t ≡ true → has_free_indices (matching r) t ≡ true → HasFrom j (j + length (sites_here t)) → Same j t
      terms_same Empty j d e f has = ap (with_results o) (empty_in r position.Anywhere rs j) ∙ sym (ap (with_results p) (empty_in q position.Anywhere rs j))
      terms_same (Node Cons a b) j d e f has =
          let n = and_parts (is_phrase Term a) _ e in
          let m = and_parts (has_free_indices (matching r) a) _ f in
          let c = children_kept Cons a b d in
          at_node Cons a b j refl refl refl has (λ k l. ap₂ (Node Cons) (term_same a j c.0 n.0 m.0 k) (terms_same b (j + length (sites_here a)) c.1 n.1 m.1 l))
      terms_same (Node h a b) j d e f has = absurd (both_ways _ refl e)

    -- the terms of a message, behind its indices

    module _ (terms : (t : Tree) → has_value t ≡ false → call_at (matching r) t ≡ None) where
      indices_kept : (o : Results) (a : Tree) → is_phrase Indices a ≡ true → with_results o a ≡ a
      unfolding is_phrase with_results
      indices_kept o Empty e = refl
      indices_kept o (Node (Name x) Empty b) e = ap (Node (Name x) Empty) (indices_kept o b e)
      indices_kept o (Node (Name x) (Node h c d) b) e = absurd (both_ways false refl e)
      indices_kept o (Node h a b) e = absurd (both_ways false refl e)

      pub message_same : (t : Tree) (j : ℕ) → AreKept t → is_phrase Message t ≡ true → has_free_indices (matching r) t ≡ true → HasFrom j (j + length (sites_here t)) → Same j t
      unfolding is_phrase has_free_indices with_results
      message_same Empty j d e f has = absurd (both_ways _ refl e)
      message_same (Node Cons a b) j d e f has =
          let n = and_parts (is_phrase Indices a) _ e in
          let m = and_parts (has_free_indices (matching r) a) _ f in
          let c = children_kept Cons a b d in
          at_node Cons a b j refl refl refl has (λ k l. ap₂ (Node Cons)
          (ap (with_results o) (names_in r terms rs j a n.0) ∙ indices_kept o a n.0 ∙ sym (indices_kept p a n.0) ∙ sym (ap (with_results p) (names_in q terms rs j a n.0)))
          (terms_same b (j + length (sites_here a)) c.1 n.1 m.1 l))
      message_same (Node h a b) j d e f has = absurd (both_ways _ refl e)
