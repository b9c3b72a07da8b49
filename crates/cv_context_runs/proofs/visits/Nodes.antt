-- Nodes of a game in its context.
use Rattle.std.proofs.Common.{◌≡◌, ℕ, ◌+◌, true, false, cond, not, ◌&&◌, List, [], length, is_some, Option, Some, None, refl, ap, ap₂, ◌∙◌}
use Rattle.std.proofs.lemmas.Bool.{and_parts, both_ways}
use Rattle.cv_syntax_trees.specs.declared.head.Head.{Head}
use Rattle.cv_syntax_trees.specs.declared.head.Head.TheVariants.{Leaf, Read, Apply, Eq, And, Or, Not, Yes, No, Cons, Branch, Name, Binder}
use Rattle.cv_syntax_trees.specs.Tree.{Tree, Empty, Node}
use Rattle.cv_scope_rules.specs.Context.{cell_of, first_position, replications_below, second_position}
use Rattle.cv_scope_rules.specs.Phrases.{Binders, Indices as Names, Nil, Pattern, Term, Terms, is_phrase}
use Rattle.cv_scope_rules.specs.declared.position.Position.{Position}
use Rattle.cv_scope_rules.specs.declared.position.Position.TheVariants as position
use Rattle.cv_scene.specs.Instances.{Call, call_at}
use Rattle.cv_scene.specs.Sites.{is_guard}
use Rattle.cv_scene.specs.Contexts.{after_calls, context_in, in_context, is_statement}
use Rattle.cv_scene.specs.Reductions.{Reduction, is_coin, matching}
use Rattle.cv_scene.specs.Apt.{has_value, inside}
use Rattle.cv_match_laws.proofs.values.Numbers.{context}
use Rattle.cv_context_runs.specs.visits.Fine.{has_no_call}

-- a node that is no instance, behind the calls of its sites
abbrev pub plain_node : Reduction → Position → List (ℕ × ℕ) → ℕ → Head → Tree → Tree → Tree
plain_node r w rs j h a b =
    after_calls r.answer j (cond (is_statement h) (inside r w rs h a) [])
    (in_context (matching r) (is_coin r) h (cond (is_guard w) a (context r (first_position w h) rs j a)) (context r (second_position w h) (replications_below h rs) (j + length (inside r w rs h a)) b))

abbrev pub by_call : Option Call → Tree → Tree → Tree
by_call (Some c) cell t = cell
by_call None cell t = t

module _ (r : Reduction) where
  pub node_by : (w : Position) (rs : List (ℕ × ℕ)) (j : ℕ) (h : Head) (a b : Tree) → context r w rs j (Node h a b) ≡ by_call (call_at (matching r) (Node h a b)) (cell_of rs (r.answer j)) (plain_node r w rs j h a b)
  unfolding context_in
  node_by w rs j h a b = go (call_at (matching r) (Node h a b))
    where
      go : (o : Option Call) → elim o as (λ _. Tree) [ Some c ↦ cell_of rs (r.answer j) | None ↦ plain_node r w rs j h a b ] ≡ by_call o (cell_of rs (r.answer j)) (plain_node r w rs j h a b)
      go (Some c) = refl
      go None = refl

  pub empty_in : (w : Position) (rs : List (ℕ × ℕ)) (j : ℕ) → context r w rs j Empty ≡ Empty
  unfolding context_in
  empty_in w rs j = refl

  no_call : (t : Tree) → not (is_some (call_at (matching r) t)) ≡ true → call_at (matching r) t ≡ None
  no_call t e = go (call_at (matching r) t) e
    where
      go : (o : Option Call) → not (is_some o) ≡ true → o ≡ None
      go (Some c) e = absurd (both_ways _ refl e)
      go None e = refl

  pub none_in : (w : Position) (rs : List (ℕ × ℕ)) (j : ℕ) (h : Head) (a b : Tree) → call_at (matching r) (Node h a b) ≡ None → context r w rs j (Node h a b) ≡ plain_node r w rs j h a b
  none_in w rs j h a b e = node_by w rs j h a b ∙ ap (λ o. by_call o (cell_of rs (r.answer j)) (plain_node r w rs j h a b)) e

  pub nil_in : (rs : List (ℕ × ℕ)) (j : ℕ) (a : Tree) → is_phrase Nil a ≡ true → context r position.Anywhere rs j a ≡ a
  unfolding is_phrase
  nil_in rs j Empty e = empty_in position.Anywhere rs j
  nil_in rs j (Node h a b) e = absurd (both_ways false refl e)

  -- terms without instances stay

  mutual
    unfolding is_phrase has_no_call

    pub term_stays : (rs : List (ℕ × ℕ)) (j : ℕ) (t : Tree) → is_phrase Term t ≡ true → has_no_call (matching r) t ≡ true → context r position.Anywhere rs j t ≡ t
    term_stays rs j Empty e f = absurd (both_ways false refl e)
    term_stays rs j (Node (Leaf x) a b) e f =
        let p = and_parts (is_phrase Nil a) _ e in
        none_in position.Anywhere rs j (Leaf x) a b (no_call (Node (Leaf x) a b) (and_parts _ (has_no_call (matching r) a && has_no_call (matching r) b) f).0) ∙ ap₂ (Node (Leaf x)) (nil_in rs j a p.0) (nil_in rs _ b p.1)
    term_stays rs j (Node (Read x) a b) e f =
        let p = and_parts (is_phrase Terms a) _ e in
        let q = and_parts (not (is_some (call_at (matching r) (Node (Read x) a b)))) _ f in
        none_in position.Anywhere rs j (Read x) a b (no_call (Node (Read x) a b) q.0) ∙ ap₂ (Node (Read x)) (terms_stay rs j a p.0 (and_parts (has_no_call (matching r) a) _ q.1).0) (nil_in rs _ b p.1)
    term_stays rs j (Node (Apply x) a b) e f =
        let p = and_parts (is_phrase Terms a) _ e in
        let q = and_parts (not (is_some (call_at (matching r) (Node (Apply x) a b)))) _ f in
        none_in position.Anywhere rs j (Apply x) a b (no_call (Node (Apply x) a b) q.0) ∙ ap₂ (Node (Apply x)) (terms_stay rs j a p.0 (and_parts (has_no_call (matching r) a) _ q.1).0) (nil_in rs _ b p.1)
    term_stays rs j (Node Eq a b) e f =
        let p = and_parts (is_phrase Term a) _ e in
        let q = and_parts (not (is_some (call_at (matching r) (Node Eq a b)))) _ f in
        let s = and_parts (has_no_call (matching r) a) (has_no_call (matching r) b) q.1 in
        none_in position.Anywhere rs j Eq a b (no_call (Node Eq a b) q.0) ∙ ap₂ (Node Eq) (term_stays rs j a p.0 s.0) (term_stays rs _ b p.1 s.1)
    term_stays rs j (Node And a b) e f =
        let p = and_parts (is_phrase Term a) _ e in
        let q = and_parts (not (is_some (call_at (matching r) (Node And a b)))) _ f in
        let s = and_parts (has_no_call (matching r) a) (has_no_call (matching r) b) q.1 in
        none_in position.Anywhere rs j And a b (no_call (Node And a b) q.0) ∙ ap₂ (Node And) (term_stays rs j a p.0 s.0) (term_stays rs _ b p.1 s.1)
    term_stays rs j (Node Or a b) e f =
        let p = and_parts (is_phrase Term a) _ e in
        let q = and_parts (not (is_some (call_at (matching r) (Node Or a b)))) _ f in
        let s = and_parts (has_no_call (matching r) a) (has_no_call (matching r) b) q.1 in
        none_in position.Anywhere rs j Or a b (no_call (Node Or a b) q.0) ∙ ap₂ (Node Or) (term_stays rs j a p.0 s.0) (term_stays rs _ b p.1 s.1)
    term_stays rs j (Node Not a b) e f =
        let p = and_parts (is_phrase Term a) _ e in
        let q = and_parts (not (is_some (call_at (matching r) (Node Not a b)))) _ f in
        none_in position.Anywhere rs j Not a b (no_call (Node Not a b) q.0) ∙ ap₂ (Node Not) (term_stays rs j a p.0 (and_parts (has_no_call (matching r) a) _ q.1).0) (nil_in rs _ b p.1)
    term_stays rs j (Node Yes a b) e f =
        let p = and_parts (is_phrase Nil a) _ e in
        none_in position.Anywhere rs j Yes a b (no_call (Node Yes a b) (and_parts _ (has_no_call (matching r) a && has_no_call (matching r) b) f).0) ∙ ap₂ (Node Yes) (nil_in rs j a p.0) (nil_in rs _ b p.1)
    term_stays rs j (Node No a b) e f =
        let p = and_parts (is_phrase Nil a) _ e in
        none_in position.Anywhere rs j No a b (no_call (Node No a b) (and_parts _ (has_no_call (matching r) a && has_no_call (matching r) b) f).0) ∙ ap₂ (Node No) (nil_in rs j a p.0) (nil_in rs _ b p.1)
    term_stays rs j (Node h a b) e f = absurd (both_ways false refl e)

    pub terms_stay : (rs : List (ℕ × ℕ)) (j : ℕ) (t : Tree) → is_phrase Terms t ≡ true → has_no_call (matching r) t ≡ true → context r position.Anywhere rs j t ≡ t
    terms_stay rs j Empty e f = empty_in position.Anywhere rs j
    terms_stay rs j (Node Cons a b) e f =
        let p = and_parts (is_phrase Term a) _ e in
        let q = and_parts (not (is_some (call_at (matching r) (Node Cons a b)))) _ f in
        let s = and_parts (has_no_call (matching r) a) (has_no_call (matching r) b) q.1 in
        none_in position.Anywhere rs j Cons a b (no_call (Node Cons a b) q.0) ∙ ap₂ (Node Cons) (term_stays rs j a p.0 s.0) (terms_stay rs _ b p.1 s.1)
    terms_stay rs j (Node h a b) e f = absurd (both_ways false refl e)

  -- phrases that have no terms

  module _ (terms : (t : Tree) → has_value t ≡ false → call_at (matching r) t ≡ None) where
    pub node_in : (w : Position) (rs : List (ℕ × ℕ)) (j : ℕ) (h : Head) (a b : Tree) → has_value (Node h a b) ≡ false → context r w rs j (Node h a b) ≡ plain_node r w rs j h a b
    node_in w rs j h a b e = none_in w rs j h a b (terms (Node h a b) e)

    pub names_in : (rs : List (ℕ × ℕ)) (j : ℕ) (a : Tree) → is_phrase Names a ≡ true → context r position.Anywhere rs j a ≡ a
    unfolding is_phrase
    names_in rs j Empty e = empty_in position.Anywhere rs j
    names_in rs j (Node (Name i) a b) e =
        let p = and_parts (is_phrase Nil a) _ e in node_in position.Anywhere rs j (Name i) a b refl ∙ ap₂ (Node (Name i)) (nil_in rs j a p.0) (names_in rs (j + length (inside r position.Anywhere rs (Name i) a)) b p.1)
    names_in rs j (Node h a b) e = absurd (both_ways false refl e)

    pub binders_in : (rs : List (ℕ × ℕ)) (j : ℕ) (a : Tree) → is_phrase Binders a ≡ true → context r position.Anywhere rs j a ≡ a
    unfolding is_phrase
    binders_in rs j Empty e = empty_in position.Anywhere rs j
    binders_in rs j (Node (Binder x T) a b) e =
        let p = and_parts (is_phrase Nil a) _ e in node_in position.Anywhere rs j (Binder x T) a b refl ∙ ap₂ (Node (Binder x T)) (nil_in rs j a p.0) (binders_in rs (j + length (inside r position.Anywhere rs (Binder x T) a)) b p.1)
    binders_in rs j (Node h a b) e = absurd (both_ways false refl e)

    pub pattern_in : (rs : List (ℕ × ℕ)) (j : ℕ) (a : Tree) → is_phrase Pattern a ≡ true → context r position.Anywhere rs j a ≡ a
    unfolding is_phrase
    pattern_in rs j Empty e = absurd (both_ways false refl e)
    pattern_in rs j (Node Cons a b) e =
        let p = and_parts (is_phrase Names a) _ e in node_in position.Anywhere rs j Cons a b refl ∙ ap₂ (Node Cons) (names_in rs j a p.0) (binders_in rs (j + length (inside r position.Anywhere rs Cons a)) b p.1)
    pattern_in rs j (Node h a b) e = absurd (both_ways false refl e)

    abbrev pub arm : (us cells c b : Tree) → Tree
    arm us cells c b = Node Branch us (Node Cons cells (Node Cons c b))

    abbrev pub body_number : List (ℕ × ℕ) → ℕ → Tree → ℕ
    body_number rs j us = j + length (inside r position.Anywhere rs Branch us) + 0 + 0

    pub branch_in : (rs : List (ℕ × ℕ)) (j : ℕ) (us cells c b more : Tree) → is_phrase Binders us ≡ true
        → context r position.Branches rs j (Node Cons (arm us cells c b) more)
        ≡ Node Cons (arm us cells c (context r position.Anywhere rs (body_number rs j us) b)) (context r position.Branches rs (j + length (inside r position.Branches rs Cons (arm us cells c b))) more)
    branch_in rs j us cells c b more e =
        node_in position.Branches rs j Cons (arm us cells c b) more refl
        ∙ ap (λ z. Node Cons z (context r position.Branches rs (j + length (inside r position.Branches rs Cons (arm us cells c b))) more))
        (node_in position.Anywhere rs j Branch us (Node Cons cells (Node Cons c b)) refl
        ∙ ap₂ (Node Branch) (binders_in rs j us e)
        (node_in position.Guards rs (j + length (inside r position.Anywhere rs Branch us)) Cons cells (Node Cons c b) refl
        ∙ ap (Node Cons cells) (node_in position.Guarded rs (j + length (inside r position.Anywhere rs Branch us) + 0) Cons c b refl)))
