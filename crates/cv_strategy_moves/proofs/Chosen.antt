-- Where a game draws the key, its next game chooses the right side's key.
use Rattle.std.proofs.Common.{◌≡◌, ℕ, ◌+◌, Bool, true, false, cond, ◌&&◌, ◌||◌, ◌==◌, List, [], ◌∷◌, length, if◌then◌else◌, Option, Some, None, refl, sym, ap, ap₂, ◌∙◌, eqb-true, eq-eqb}
use Rattle.std.proofs.lemmas.Bool.{and_parts, both_ways, or_left}
use Rattle.cv_syntax_trees.specs.declared.head.Head.{Head}
use Rattle.cv_syntax_trees.specs.declared.head.Head.TheVariants.{Stop, Yield, Par, Repl, In, Out, Event, New, Let, If, Find, Branch, Leaf, Read, Apply, Eq, And, Or, Not, Yes, No, Cons, Binder, Name, Key, Call as CallHead}
use Rattle.cv_syntax_trees.specs.Tree.{Tree, Empty, Node, first_place, lone, second, second_place}
use Rattle.cv_meaning.specs.contexts.Inlined.{Caller, Drawn, Own, Scope, expanded, find_or_else, inlined_body, inlined_branch, inlined_call, in_game}
use Rattle.cv_scope_rules.specs.Context.{cell_of, first_position, replications_below, second_position}
use Rattle.cv_scope_rules.specs.Made.{made_by}
use Rattle.cv_scope_rules.specs.Phrases.{Arm, Binders, Body, Branches, Cells, Else, Guarded, Guards, Indices, Inputs, Message, Nil, OneCell, Pattern, Phrase, Term, Terms, Then, both_are, is_phrase, oracle_parts, parts}
use Rattle.cv_scope_rules.specs.Sites.{Variable}
use Rattle.cv_scope_rules.specs.declared.position.Position.{Position}
use Rattle.cv_scope_runs.proofs.Rows.{Row, bodies, branch, branches, call, definition, event, find, guarded, guards, input, key, last_body, output, par, position_of, repl, restriction, row, stop, test, walks, yield}
use Rattle.cv_scene.specs.Apt.{has_value}
use Rattle.cv_scene.specs.Contexts.{after_calls, call_terms, context_in, in_context, is_statement}
use Rattle.cv_scene.specs.Instances.{Call, Matching, call_at}
use Rattle.cv_scene.specs.Scenes.{has_some_new, is_new_head}
use Rattle.cv_scene.specs.Sites.{Site, is_guard, sites_in}
use Rattle.cv_inline.specs.NextGame.{Calling, InlinedCalls, Results, call_in_game, callers_of, next_in, numbered}
use Rattle.cv_strategy_moves.specs.Keys.{has_choice_of}
use Rattle.cv_strategy_moves.proofs.Tests.{either, in_first, in_second}

no_row : {A : Type 0} (q : Phrase × Phrase) → ◌≡◌ {A = Option (Phrase × Phrase)} None (Some q) → A
no_row q e = absurd (clash e)
  where
    clash : ◌≡◌ {A = Option (Phrase × Phrase)} None (Some q) → ⊥
    clash e = cc

-- rows of games are rows of contexts
pub same_parts : (σ : Phrase) (h : Head) (q : Phrase × Phrase) → parts σ h ≡ Some q → oracle_parts σ h ≡ Some q
same_parts Body (Key x) q e = no_row q e
same_parts Body (CallHead x l) q e = no_row q e
same_parts σ h q e = e

-- no term and no list has a `new`

abbrev IsStill : Phrase → Head → Option (Phrase × Phrase) → Type 0
IsStill σ h None = Unit {0}
IsStill σ h (Some q) = walks σ ≡ false → (is_new_head h ≡ false) × ((walks q.0 ≡ false) × (walks q.1 ≡ false))

walked : {A : Type 0} → true ≡ false → A
walked e = absurd (both_ways true e refl)

still : (σ : Phrase) (h : Head) → IsStill σ h (parts σ h)
still Inputs Stop = walked
still Inputs Par = walked
still Inputs (Repl i n) = walked
still Inputs (In c) = walked
still Body Yield = walked
still Body (Out c) = walked
still Body (New x T) = walked
still Body (Let x T) = walked
still Body (Event e) = walked
still Body If = walked
still Body (Find l) = walked
still Then Cons = walked
still Else Cons = walked
still Branches Cons = walked
still Arm Branch = walked
still Guards Cons = walked
still Guarded Cons = walked
still Pattern Cons = λ w. (refl, (refl, refl))
still Message Cons = λ w. (refl, (refl, refl))
still Indices (Name i) = λ w. (refl, (refl, refl))
still Binders (Binder x T) = λ w. (refl, (refl, refl))
still Cells Cons = λ w. (refl, (refl, refl))
still OneCell (Leaf x) = λ w. (refl, (refl, refl))
still OneCell (Read x) = λ w. (refl, (refl, refl))
still Terms Cons = λ w. (refl, (refl, refl))
still Term (Leaf x) = λ w. (refl, (refl, refl))
still Term (Read x) = λ w. (refl, (refl, refl))
still Term (Apply f) = λ w. (refl, (refl, refl))
still Term Eq = λ w. (refl, (refl, refl))
still Term And = λ w. (refl, (refl, refl))
still Term Or = λ w. (refl, (refl, refl))
still Term Not = λ w. (refl, (refl, refl))
still Term Yes = λ w. (refl, (refl, refl))
still Term No = λ w. (refl, (refl, refl))
still σ h = tt

no_news : (x : ℕ) (t : Tree) (σ : Phrase) → walks σ ≡ false → is_phrase σ t ≡ true → has_some_new x t ≡ false
unfolding is_phrase has_some_new
no_news x Empty σ w e = refl
no_news x (Node h a b) σ w e = go (parts σ h) (still σ h) e (no_news x a) (no_news x b)
  where
    go : (o : Option (Phrase × Phrase)) → IsStill σ h o → both_are o (λ τ. is_phrase τ a) (λ ρ. is_phrase ρ b) ≡ true
        → ((τ : Phrase) → walks τ ≡ false → is_phrase τ a ≡ true → has_some_new x a ≡ false) → ((ρ : Phrase) → walks ρ ≡ false → is_phrase ρ b ≡ true → has_some_new x b ≡ false)
        → ((is_new_head h && made_by h a (Variable x)) || (has_some_new x a || has_some_new x b)) ≡ false
    go None s e f g = absurd (both_ways false refl e)
    go (Some q) s e f g =
        let p = and_parts (is_phrase q.0 a) (is_phrase q.1 b) e in
        let r = s w in
        ap₂ ◌||◌ (ap (λ z. z && made_by h a (Variable x)) r.0) (ap₂ ◌||◌ (f q.0 r.1.0 p.0) (g q.1 r.1.1 p.1))

or_else : (T label : ℕ) (found otherwise : Tree) → has_choice_of T otherwise ≡ true → has_choice_of T (find_or_else label found otherwise) ≡ true
unfolding has_choice_of
or_else T l Empty t e = e
or_else T l (Node h x y) t e = in_second false (has_choice_of T (Node h x y)) (has_choice_of T t) e

-- a right body has what stands in place of its results

module _ (T : ℕ) (d : Drawn) (ss : List Caller) (c : Caller) (k : Tree → Tree) (all : (m : Tree) → has_choice_of T (k m) ≡ true) where
  in_body : (body : Tree) (Σ : Scope) (p : ℕ) → has_choice_of T (inlined_body d ss c Σ p body k) ≡ true
  unfolding inlined_body has_choice_of
  in_body (Node (New z U) a b) Σ p = in_second _ false _ (in_body b ((z, Own) ∷ Σ) _)
  in_body (Node (Let z U) a b) Σ p = in_second false _ _ (in_body b ((z, Own) ∷ Σ) _)
  in_body (Node If a (Node h b (Node j e f))) Σ p = in_second false (has_choice_of T (in_game d c Σ a)) _ (in_first false _ _ (in_body b Σ _))
  in_body (Node (Find l) a b) Σ p =
      or_else T (d.label c.number p) (expanded d c Σ (d.index c.number p) (λ j Τ. inlined_branch d ss c Τ (first_place p (Find l)) a k j) ss a)
      (inlined_body d ss c Σ (second_place p (Find l) a) b k) (in_body b Σ (second_place p (Find l) a))
  in_body m Σ p = all _

  in_call : (xs : List (ℕ × ℕ)) (ms body : Tree) (Σ : Scope) → has_choice_of T (inlined_call d ss c Σ xs ms body k) ≡ true
  unfolding inlined_call has_choice_of
  in_call (x ∷ xs) (Node h m more) body Σ = in_second false _ _ (in_call xs more body ((x.0, Own) ∷ Σ))
  in_call [] ms body Σ = in_body body Σ 0
  in_call (x ∷ xs) Empty body Σ = in_body body Σ 0

module _ (M : Matching) (coins : ℕ → Bool) (answer : ℕ → ℕ) (terms : (t : Tree) → has_value t ≡ false → call_at M t ≡ None) (i : InlinedCalls) where
  abbrev chosen : Tree → Bool
  chosen t = has_choice_of i.group.key.1 t

  call_chosen : (o : Option Calling) (ms : Tree) (k : Tree → Tree) → ((m : Tree) → chosen (k m) ≡ true) → chosen (call_in_game i o ms k) ≡ true
  call_chosen None ms k all = all (lone No)
  call_chosen (Some c) ms k all = in_call i.group.key.1 i.drawn (callers_of i.callings) c.caller k all c.function.arguments ms c.function.body _

  after_chosen : (cs : List Site) (j : ℕ) (t : Tree) → ((rs : Results) → chosen (next_in i rs t) ≡ true) → (rs : Results) → chosen (next_in i rs (after_calls answer j cs t)) ≡ true
  unfolding next_in
  after_chosen [] j t all rs = all rs
  after_chosen (c ∷ cs) j t all rs = call_chosen (numbered j i.callings) (second (call_terms c.call.instance)) _ (λ m. after_chosen cs _ t all ((answer j, m) ∷ rs))

  abbrev inside : Position → List (ℕ × ℕ) → Head → Tree → List Site
  inside w rs h a = if is_guard w then [] else sites_in M (first_position w h) rs 0 a

  abbrev by_call : Position → List (ℕ × ℕ) → ℕ → Head → Tree → Tree → Option Call → Tree
  by_call w rs j h a b o = elim o [
    | Some c ↦ cell_of rs (answer j)
    | None ↦
        after_calls answer j (if is_statement h then inside w rs h a else [])
        (in_context M coins h (if is_guard w then a else context_in M coins answer (first_position w h) rs j a)
        (context_in M coins answer (second_position w h) (replications_below h rs) (j + length (inside w rs h a)) b))
  ]

  context_of_node : (w : Position) (rs : List (ℕ × ℕ)) (j : ℕ) (h : Head) (a b : Tree) → has_value (Node h a b) ≡ false
      → context_in M coins answer w rs j (Node h a b) ≡ by_call w rs j h a b None
  unfolding context_in
  context_of_node w rs j h a b e = ap (by_call w rs j h a b) (terms (Node h a b) e)

  abbrev IsChosen : Phrase → Tree → Type 0
  IsChosen σ t = (rs : List (ℕ × ℕ)) (j : ℕ) (results : Results) → chosen (next_in i results (context_in M coins answer (position_of σ) rs j t)) ≡ true

  -- a tree with the key's `new` has the choice in the next game
  abbrev Follows : Tree → Type 0
  Follows t = (σ : Phrase) → walks σ ≡ true → is_phrase σ t ≡ true → has_some_new M.key t ≡ true → IsChosen σ t

  absent : {A : Type 0} (t : Tree) (σ : Phrase) → walks σ ≡ false → is_phrase σ t ≡ true → has_some_new M.key t ≡ true → A
  absent t σ w e n = absurd (both_ways _ (no_news M.key t σ w e) n)

  -- the node stands there as it is, before what follows
  node_chosen : (w : Position) (rs : List (ℕ × ℕ)) (j : ℕ) (results : Results) (h : Head) (a b : Tree) → has_value (Node h a b) ≡ false
      → ((r : Results) → chosen (next_in i r (in_context M coins h (if is_guard w then a else context_in M coins answer (first_position w h) rs j a) (context_in M coins answer (second_position w h) (replications_below h rs) (j + length (inside w rs h a)) b))) ≡ true)
      → chosen (next_in i results (context_in M coins answer w rs j (Node h a b))) ≡ true
  node_chosen w rs j results h a b v all =
      ap (λ t. chosen (next_in i results t)) (context_of_node w rs j h a b v) ∙ after_chosen (if is_statement h then inside w rs h a else []) j _ all results

  by_row : (σ : Phrase) (h : Head) (τ ρ : Phrase) (a b : Tree) → Row σ h τ ρ → is_phrase τ a ≡ true → is_phrase ρ b ≡ true
      → ((is_new_head h && made_by h a (Variable M.key)) || (has_some_new M.key a || has_some_new M.key b)) ≡ true → Follows a → Follows b → IsChosen σ (Node h a b)
  unfolding next_in has_choice_of
  by_row σ h τ ρ a b stop p q n f g rs j results = either _ _ n (absent a Nil refl p) (absent b Nil refl q)
  by_row σ h τ ρ a b par p q n f g rs j results =
      node_chosen _ rs j results Par a b refl
      (λ r. either _ _ n (λ m. in_first false _ _ (f Inputs refl p m rs j [])) (λ m. in_second false _ _ (g Inputs refl q m rs _ [])))
  by_row σ h τ ρ a b repl p q n f g rs j results =
      node_chosen _ rs j results h a b refl (λ r. either _ _ n (absent a Nil refl p) (λ m. in_second false _ _ (g Inputs refl q m _ _ [])))
  by_row σ h τ ρ a b (input {c}) p q n f g rs j results =
      node_chosen _ rs j results (In c) a b refl
      (λ r. either _ _ n (absent a Pattern refl p)
      (λ m. in_second false (chosen (context_in M coins answer (first_position (position_of Inputs) (In c)) rs j a)) _ (g Body refl q m rs (j + length (inside (position_of Inputs) rs (In c) a)) [])))
  by_row σ h τ ρ a b yield p q n f g rs j results = either _ _ n (absent a Nil refl p) (absent b Nil refl q)
  by_row σ h τ ρ a b output p q n f g rs j results =
      node_chosen _ rs j results h a b refl (λ r. either _ _ n (absent a Message refl p) (λ m. in_second false _ _ (g Inputs refl q m rs _ [])))
  by_row σ h τ ρ a b (restriction {x} {T}) p q n f g rs j results =
      node_chosen _ rs j results (New x T) a b refl (λ r. go (x == M.key) refl (coins x) r)
    where
      below : (x == M.key) ≡ false → IsChosen Body b
      below k = either _ _ n (λ m. absurd (both_ways _ k (eq-eqb x M.key (sym (eqb-true M.key x m))))) (λ m. either _ _ m (absent a Nil refl p) (g Body refl q))

      go : (z : Bool) → (x == M.key) ≡ z → (w : Bool) (r : Results)
          → chosen (next_in i r (cond z (Node (Key x) Empty (context_in M coins answer (position_of Body) rs (j + length (inside (position_of Body) rs (New x T) a)) b))
          (cond w (context_in M coins answer (position_of Body) rs (j + length (inside (position_of Body) rs (New x T) a)) b) (Node (New x T) (context_in M coins answer (position_of Nil) rs j a) (context_in M coins answer (position_of Body) rs (j + length (inside (position_of Body) rs (New x T) a)) b))))) ≡ true
      go true k w r = or_left _ _ (eq-eqb i.group.key.1 i.group.key.1 refl)
      go false k true r = below k rs _ r
      go false k false r = in_second _ _ _ (below k rs _ [])
  by_row σ h τ ρ a b definition p q n f g rs j results =
      node_chosen _ rs j results h a b refl (λ r. either _ _ n (absent a Term refl p) (λ m. in_second false _ _ (g Body refl q m rs _ [])))
  by_row σ h τ ρ a b key p q n f g rs j results = either _ _ n (absent a Nil refl p) (λ m. node_chosen _ rs j results h a b refl (λ r. in_second _ false _ (g Body refl q m rs _ [])))
  by_row σ h τ ρ a b (call {x} {l}) p q n f g rs j results =
      let behind : ℕ = j + length (inside (position_of Body) rs (CallHead x l) a) in
      node_chosen _ rs j results (CallHead x l) a b refl
      (λ r. either _ _ n (absent a Terms refl p)
      (λ m. call_chosen (numbered l i.callings) (second (context_in M coins answer (first_position (position_of Body) (CallHead x l)) rs j a))
      (λ t. next_in i ((x, t) ∷ r) (context_in M coins answer (position_of Body) rs behind b)) (λ t. g Body refl q m rs behind ((x, t) ∷ r))))
  by_row σ h τ ρ a b event p q n f g rs j results =
      node_chosen _ rs j results h a b refl (λ r. either _ _ n (absent a Terms refl p) (λ m. in_second false _ _ (g Body refl q m rs _ [])))
  by_row σ h τ ρ a b test p q n f g rs j results =
      node_chosen _ rs j results h a b refl (λ r. either _ _ n (absent a Term refl p) (λ m. in_second false _ _ (g Then refl q m rs _ [])))
  by_row σ h τ ρ a b bodies p q n f g rs j results =
      node_chosen _ rs j results h a b refl (λ r. either _ _ n (λ m. in_first false _ _ (f Body refl p m rs j [])) (λ m. in_second false _ _ (g Else refl q m rs _ [])))
  by_row σ h τ ρ a b last_body p q n f g rs j results =
      node_chosen _ rs j results h a b refl (λ r. either _ _ n (λ m. in_first false _ _ (f Body refl p m rs j [])) (absent b Nil refl q))
  by_row σ h τ ρ a b find p q n f g rs j results =
      node_chosen _ rs j results h a b refl (λ r. either _ _ n (λ m. in_first false _ _ (f Branches refl p m rs j [])) (λ m. in_second false _ _ (g Body refl q m rs _ [])))
  by_row σ h τ ρ a b branches p q n f g rs j results =
      node_chosen _ rs j results h a b refl (λ r. either _ _ n (λ m. in_first false _ _ (f Arm refl p m rs j [])) (λ m. in_second false _ _ (g Branches refl q m rs _ [])))
  by_row σ h τ ρ a b branch p q n f g rs j results =
      node_chosen _ rs j results h a b refl (λ r. either _ _ n (absent a Binders refl p) (λ m. in_second false _ _ (g Guards refl q m rs _ [])))
  by_row σ h τ ρ a b guards p q n f g rs j results =
      node_chosen _ rs j results h a b refl (λ r. either _ _ n (absent a Cells refl p) (λ m. in_second false _ _ (g Guarded refl q m rs _ [])))
  by_row σ h τ ρ a b guarded p q n f g rs j results =
      node_chosen _ rs j results h a b refl (λ r. either _ _ n (absent a Term refl p) (λ m. in_second false _ _ (g Body refl q m rs _ [])))

  by_parts : (σ : Phrase) (h : Head) (a b : Tree) → walks σ ≡ true → (o : Option (Phrase × Phrase)) → parts σ h ≡ o → both_are o (λ τ. is_phrase τ a) (λ ρ. is_phrase ρ b) ≡ true
      → ((is_new_head h && made_by h a (Variable M.key)) || (has_some_new M.key a || has_some_new M.key b)) ≡ true → Follows a → Follows b → IsChosen σ (Node h a b)
  by_parts σ h a b w None s e n f g = absurd (both_ways false refl e)
  by_parts σ h a b w (Some q) s e n f g =
      let p = and_parts (is_phrase q.0 a) (is_phrase q.1 b) e in
      by_row σ h q.0 q.1 a b (row σ h q.0 q.1 w (same_parts σ h q s)) p.0 p.1 n f g

  pub follows : (t : Tree) → Follows t
  unfolding is_phrase has_some_new
  follows Empty σ w e n = absurd (both_ways false refl n)
  follows (Node h a b) σ w e n = by_parts σ h a b w (parts σ h) refl e n (follows a) (follows b)
