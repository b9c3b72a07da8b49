-- The next game of a context, whatever the answers are called.
use Rattle.std.proofs.Common.{◌≡◌, ℕ, suc, ◌+◌, Bool, true, false, cond, ◌||◌, ◌==◌, List, [], ◌∷◌, length, None, refl, sym, ap, ap₂, ◌∙◌, eqb-true, arith}
use Rattle.std.proofs.Math.Path.{fun_ext}
use Rattle.std.proofs.lemmas.Bool.{and_parts, both_ways, or_parts}
use Rattle.cv_syntax_trees.specs.declared.head.Head.{Head}
use Rattle.cv_syntax_trees.specs.declared.head.Head.TheVariants.{Stop, Yield, Par, Repl, In, Out, Event, New, Let, If, Find, Branch, Cons, Key}
use Rattle.cv_syntax_trees.specs.Tree.{Tree, Empty, Node, chain}
use Rattle.cv_scope_rules.specs.Phrases.{Arm, Binders, Body, Branches, Cells, Else, Guarded, Guards, Inputs, Message, Nil, Pattern, Term, Terms, Then, is_phrase}
use Rattle.cv_scope_rules.specs.declared.position.Position.{Position}
use Rattle.cv_scope_rules.specs.declared.position.Position.TheVariants as position
use Rattle.cv_scene.specs.Scenes.{head_names, names}
use Rattle.cv_scene.specs.Instances.{call_at}
use Rattle.cv_scene.specs.Sites.{Site, sites_in}
use Rattle.cv_scene.specs.Contexts.{after_calls}
use Rattle.cv_scene.specs.Reductions.{Reduction, context_of_game, is_coin, matching}
use Rattle.cv_scene.specs.Apt.{IsAptGame, has_value}
use Rattle.cv_match_laws.proofs.values.Numbers.{context}
use Rattle.cv_inline.specs.NextGame.{InlinedCalls, Results, call_in_game, next_in, numbered}
use Rattle.cv_context_runs.specs.visits.Fine.{has_free_indices, reads_no_call}
use Rattle.cv_context_runs.proofs.visits.Nodes.{binders_in, empty_in, node_in, pattern_in, plain_node}
use Rattle.cv_context_laws.specs.next_games.Answers.{AreEndless, with_answers}
use Rattle.cv_context_laws.proofs.next_games.Results.{alike, passed, results_from}
use Rattle.cv_context_laws.proofs.next_games.Terms.{AreKept, HasFrom, message_same, sites_here, term_same, terms_same}

module _ (r : Reduction) (g : ℕ → ℕ) (i : InlinedCalls) (terms : (t : Tree) → has_value t ≡ false → call_at (matching r) t ≡ None)
    (apart : (j k : ℕ) → r.answer j ≡ r.answer k → j ≡ k) (apart_too : (j k : ℕ) → g j ≡ g k → j ≡ k) where
  abbrev q : Reduction
  q = with_answers r g

  -- no name of the tree is an answer
  abbrev IsWithout : Tree → Type 0
  IsWithout t = (k : ℕ) → (names (r.answer k) t ≡ false) × (names (g k) t ≡ false)

  children_without : (h : Head) (a b : Tree) → IsWithout (Node h a b) → IsWithout a × IsWithout b
  unfolding names
  children_without h a b f = (λ k. ((below (r.answer k) (f k).0).0, (below (g k) (f k).1).0), λ k. ((below (r.answer k) (f k).0).1, (below (g k) (f k).1).1))
    where
      below : (x : ℕ) → (head_names x h || (names x a || names x b)) ≡ false → (names x a ≡ false) × (names x b ≡ false)
      below x e = or_parts (names x a) (names x b) (or_parts (head_names x h) _ e).1

  children_free : (h : Head) (a b : Tree) → has_free_indices (matching r) (Node h a b) ≡ true → (has_free_indices (matching r) a ≡ true) × (has_free_indices (matching r) b ≡ true)
  unfolding has_free_indices
  children_free h a b e = and_parts (has_free_indices (matching r) a) (has_free_indices (matching r) b) (and_parts (reads_no_call (matching r) h a) _ e).1

  -- statements

  other : (answer : ℕ → ℕ) (t : Tree) → ((k : ℕ) → names (answer k) t ≡ false) → (x : ℕ) → names x t ≡ true → (k : ℕ) → (answer k == x) ≡ false
  other answer t f x e k = go (answer k == x) refl
    where
      go : (b : Bool) → (answer k == x) ≡ b → b ≡ false
      go false h = refl
      go true h = absurd (both_ways (names x t) (ap (λ y. names y t) (sym (eqb-true (answer k) x h)) ∙ f k) e)

  kept : (t : Tree) (j : ℕ) (ms : List Tree) → IsWithout t → AreKept r g (results_from r.answer j ms []) (results_from g j ms []) t
  kept t j ms f x e d = (
    passed r.answer x d ms j [] (λ k l. other r.answer t (λ k. (f k).0) x e k),
    passed g x d ms j [] (λ k l. other g t (λ k. (f k).1) x e k),
  )

  has : (rs : List (ℕ × ℕ)) (t : Tree) (j : ℕ) (ms : List Tree) → length ms ≡ length (sites_here r g (results_from r.answer j ms []) (results_from g j ms []) rs t)
      → HasFrom r g (results_from r.answer j ms []) (results_from g j ms []) rs j (j + length (sites_here r g (results_from r.answer j ms []) (results_from g j ms []) rs t))
  has rs t j ms e = λ k u v. alike r.answer g apart apart_too ms j k [] [] u (omega (arith, e))

  calls_same : (cs : List Site) (j : ℕ) (o p : Results) (t u : Tree) → ((ms : List Tree) → length ms ≡ length cs → next_in i (results_from r.answer j ms o) t ≡ next_in i (results_from g j ms p) u)
      → next_in i o (after_calls r.answer j cs t) ≡ next_in i p (after_calls g j cs u)
  unfolding next_in
  calls_same [] j o p t u f = f [] refl
  calls_same (c ∷ cs) j o p t u f =
      ap (call_in_game i (numbered j i.callings) (chain c.call.instance.arguments))
      (fun_ext (λ m. calls_same cs (suc j) ((r.answer j, m) ∷ o) ((g j, m) ∷ p) t u (λ ms e. f (m ∷ ms) (ap suc e))))

  -- a node that is no instance
  abbrev Same : Position → List (ℕ × ℕ) → ℕ → Tree → Type 0
  Same w rs j t = next_in i [] (context r w rs j t) ≡ next_in i [] (context q w rs j t)

  at_node : (w : Position) (rs : List (ℕ × ℕ)) (j : ℕ) (h : Head) (a b : Tree) → has_value (Node h a b) ≡ false → next_in i [] (plain_node r w rs j h a b) ≡ next_in i [] (plain_node q w rs j h a b) → Same w rs j (Node h a b)
  at_node w rs j h a b v e = ap (next_in i []) (node_in r terms w rs j h a b v) ∙ e ∙ sym (ap (next_in i []) (node_in q terms w rs j h a b v))

  nil_same : (w : Position) (rs : List (ℕ × ℕ)) (j : ℕ) (a : Tree) → is_phrase Nil a ≡ true → Same w rs j a
  unfolding is_phrase
  nil_same w rs j Empty e = ap (next_in i []) (empty_in r w rs j ∙ sym (empty_in q w rs j))
  nil_same w rs j (Node h a b) e = absurd (both_ways false refl e)

  new_same : (x T : ℕ) (z c : Bool) (A B C D : Tree) → next_in i [] A ≡ next_in i [] C → next_in i [] B ≡ next_in i [] D
      → next_in i [] (cond z (Node (Key x) Empty B) (cond c B (Node (New x T) A B))) ≡ next_in i [] (cond z (Node (Key x) Empty D) (cond c D (Node (New x T) C D)))
  unfolding next_in
  new_same x T true c A B C D e f = ap (Node (New i.drawn.key i.group.key.1) Empty) f
  new_same x T false true A B C D e f = f
  new_same x T false false A B C D e f = ap₂ (Node (New x T)) e f

  mutual
    unfolding is_phrase next_in

    inputs_same : (t : Tree) (rs : List (ℕ × ℕ)) (j : ℕ) → is_phrase Inputs t ≡ true → has_free_indices (matching r) t ≡ true → IsWithout t → Same position.Anywhere rs j t
    inputs_same (Node Stop a b) rs j e f w = let n = and_parts (is_phrase Nil a) _ e in at_node position.Anywhere rs j Stop a b refl (ap₂ (Node Stop) (nil_same position.Anywhere rs j a n.0) (nil_same position.Anywhere rs _ b n.1))
    inputs_same (Node Par a b) rs j e f w =
        let n = and_parts (is_phrase Inputs a) _ e in
        let m = children_free Par a b f in
        let v = children_without Par a b w in
        at_node position.Anywhere rs j Par a b refl (ap₂ (Node Par) (inputs_same a rs j n.0 m.0 v.0) (inputs_same b rs _ n.1 m.1 v.1))
    inputs_same (Node (Repl x n) a b) rs j e f w =
        let k = and_parts (is_phrase Nil a) _ e in
        at_node position.Anywhere rs j (Repl x n) a b refl (ap₂ (Node (Repl x n)) (nil_same position.Anywhere rs j a k.0) (inputs_same b _ _ k.1 (children_free (Repl x n) a b f).1 (children_without (Repl x n) a b w).1))
    inputs_same (Node (In c) a b) rs j e f w =
        let n = and_parts (is_phrase Pattern a) _ e in
        at_node position.Anywhere rs j (In c) a b refl
        (ap₂ (Node (In c)) (pattern_in r terms rs j a n.0 ∙ sym (pattern_in q terms rs j a n.0)) (body_same b rs _ n.1 (children_free (In c) a b f).1 (children_without (In c) a b w).1))
    inputs_same t rs j e f w = absurd (both_ways _ refl e)

    body_same : (t : Tree) (rs : List (ℕ × ℕ)) (j : ℕ) → is_phrase Body t ≡ true → has_free_indices (matching r) t ≡ true → IsWithout t → Same position.Anywhere rs j t
    body_same (Node Yield a b) rs j e f w = let n = and_parts (is_phrase Nil a) _ e in at_node position.Anywhere rs j Yield a b refl (ap₂ (Node Yield) (nil_same position.Anywhere rs j a n.0) (nil_same position.Anywhere rs _ b n.1))
    body_same (Node (New x T) a b) rs j e f w =
        let n = and_parts (is_phrase Nil a) _ e in
        at_node position.Anywhere rs j (New x T) a b refl (new_same x T (x == r.key) (is_coin r x) _ _ _ _ (nil_same position.Anywhere rs j a n.0) (body_same b rs _ n.1 (children_free (New x T) a b f).1 (children_without (New x T) a b w).1))
    body_same (Node (Let x T) a b) rs j e f w =
        let n = and_parts (is_phrase Term a) _ e in
        let m = children_free (Let x T) a b f in
        let v = children_without (Let x T) a b w in
        at_node position.Anywhere rs j (Let x T) a b refl
        (calls_same (sites_in (matching r) position.Anywhere rs 0 a) j [] [] _ _ (λ ms s. ap₂ (Node (Let x T)) (term_same r g _ _ rs a j (kept a j ms v.0) n.0 m.0 (has rs a j ms s)) (body_same b rs _ n.1 m.1 v.1)))
    body_same (Node (Event x) a b) rs j e f w =
        let n = and_parts (is_phrase Terms a) _ e in
        let m = children_free (Event x) a b f in
        let v = children_without (Event x) a b w in
        at_node position.Anywhere rs j (Event x) a b refl
        (calls_same (sites_in (matching r) position.Anywhere rs 0 a) j [] [] _ _ (λ ms s. ap₂ (Node (Event x)) (terms_same r g _ _ rs a j (kept a j ms v.0) n.0 m.0 (has rs a j ms s)) (body_same b rs _ n.1 m.1 v.1)))
    body_same (Node (Out c) a b) rs j e f w =
        let n = and_parts (is_phrase Message a) _ e in
        let m = children_free (Out c) a b f in
        let v = children_without (Out c) a b w in
        at_node position.Anywhere rs j (Out c) a b refl
        (calls_same (sites_in (matching r) position.Anywhere rs 0 a) j [] [] _ _ (λ ms s. ap₂ (Node (Out c)) (message_same r g _ _ rs terms a j (kept a j ms v.0) n.0 m.0 (has rs a j ms s)) (inputs_same b rs _ n.1 m.1 v.1)))
    body_same (Node If a b) rs j e f w =
        let n = and_parts (is_phrase Term a) _ e in
        let m = children_free If a b f in
        let v = children_without If a b w in
        at_node position.Anywhere rs j If a b refl
        (calls_same (sites_in (matching r) position.Anywhere rs 0 a) j [] [] _ _ (λ ms s. ap₂ (Node If) (term_same r g _ _ rs a j (kept a j ms v.0) n.0 m.0 (has rs a j ms s)) (then_same b rs _ n.1 m.1 v.1)))
    body_same (Node (Find l) a b) rs j e f w =
        let n = and_parts (is_phrase Branches a) _ e in
        let m = children_free (Find l) a b f in
        let v = children_without (Find l) a b w in
        at_node position.Anywhere rs j (Find l) a b refl (ap₂ (Node (Find l)) (branches_same a rs j n.0 m.0 v.0) (body_same b rs _ n.1 m.1 v.1))
    body_same t rs j e f w = absurd (both_ways _ refl e)

    then_same : (t : Tree) (rs : List (ℕ × ℕ)) (j : ℕ) → is_phrase Then t ≡ true → has_free_indices (matching r) t ≡ true → IsWithout t → Same position.Bodies rs j t
    then_same (Node Cons a b) rs j e f w =
        let n = and_parts (is_phrase Body a) _ e in
        let m = children_free Cons a b f in
        let v = children_without Cons a b w in
        at_node position.Bodies rs j Cons a b refl (ap₂ (Node Cons) (body_same a rs j n.0 m.0 v.0) (else_same b rs _ n.1 m.1 v.1))
    then_same t rs j e f w = absurd (both_ways _ refl e)

    else_same : (t : Tree) (rs : List (ℕ × ℕ)) (j : ℕ) → is_phrase Else t ≡ true → has_free_indices (matching r) t ≡ true → IsWithout t → Same position.ElseBody rs j t
    else_same (Node Cons a b) rs j e f w =
        let n = and_parts (is_phrase Body a) _ e in
        at_node position.ElseBody rs j Cons a b refl (ap₂ (Node Cons) (body_same a rs j n.0 (children_free Cons a b f).0 (children_without Cons a b w).0) (nil_same position.Anywhere rs _ b n.1))
    else_same t rs j e f w = absurd (both_ways _ refl e)

    branches_same : (t : Tree) (rs : List (ℕ × ℕ)) (j : ℕ) → is_phrase Branches t ≡ true → has_free_indices (matching r) t ≡ true → IsWithout t → Same position.Branches rs j t
    branches_same Empty rs j e f w = ap (next_in i []) (empty_in r position.Branches rs j ∙ sym (empty_in q position.Branches rs j))
    branches_same (Node Cons a b) rs j e f w =
        let n = and_parts (is_phrase Arm a) _ e in
        let m = children_free Cons a b f in
        let v = children_without Cons a b w in
        at_node position.Branches rs j Cons a b refl (ap₂ (Node Cons) (arm_same a rs j n.0 m.0 v.0) (branches_same b rs _ n.1 m.1 v.1))
    branches_same t rs j e f w = absurd (both_ways _ refl e)

    arm_same : (t : Tree) (rs : List (ℕ × ℕ)) (j : ℕ) → is_phrase Arm t ≡ true → has_free_indices (matching r) t ≡ true → IsWithout t → Same position.Anywhere rs j t
    arm_same (Node Branch a b) rs j e f w =
        let n = and_parts (is_phrase Binders a) _ e in
        at_node position.Anywhere rs j Branch a b refl
        (ap₂ (Node Branch) (binders_in r terms rs j a n.0 ∙ sym (binders_in q terms rs j a n.0)) (guards_same b rs _ n.1 (children_free Branch a b f).1 (children_without Branch a b w).1))
    arm_same t rs j e f w = absurd (both_ways _ refl e)

    guards_same : (t : Tree) (rs : List (ℕ × ℕ)) (j : ℕ) → is_phrase Guards t ≡ true → has_free_indices (matching r) t ≡ true → IsWithout t → Same position.Guards rs j t
    guards_same (Node Cons a b) rs j e f w =
        let n = and_parts (is_phrase Cells a) _ e in
        at_node position.Guards rs j Cons a b refl (ap (Node Cons (next_in i [] a)) (guarded_same b rs _ n.1 (children_free Cons a b f).1 (children_without Cons a b w).1))
    guards_same t rs j e f w = absurd (both_ways _ refl e)

    guarded_same : (t : Tree) (rs : List (ℕ × ℕ)) (j : ℕ) → is_phrase Guarded t ≡ true → has_free_indices (matching r) t ≡ true → IsWithout t → Same position.Guarded rs j t
    guarded_same (Node Cons a b) rs j e f w =
        let n = and_parts (is_phrase Term a) _ e in
        at_node position.Guarded rs j Cons a b refl (ap (Node Cons (next_in i [] a)) (body_same b rs _ n.1 (children_free Cons a b f).1 (children_without Cons a b w).1))
    guarded_same t rs j e f w = absurd (both_ways _ refl e)

pub next_same : (r : Reduction) (answer : ℕ → ℕ) (i : InlinedCalls) → IsAptGame r → has_free_indices (matching r) r.scene.game ≡ true → AreEndless r.scene.game r.answer → AreEndless r.scene.game answer
    → next_in i [] (context_of_game r).game ≡ next_in i [] (context_of_game (with_answers r answer)).game
next_same r answer i apt free names other =
    inputs_same r answer i apt.terms names.apart other.apart r.scene.game [] 0 apt.formed.phrase free (λ k. (names.unnamed k, other.unnamed k))
