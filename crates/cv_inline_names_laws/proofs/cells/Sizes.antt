-- Cells have one size, in the list of a context's cells as in that of its next game.
use Rattle.std.proofs.Common.{◌≡◌, ℕ, zero, suc, ◌+◌, Bool, true, false, cond, not, ◌&&◌, ◌==◌, List, [], ◌∷◌, ◌++◌, map, filter, flat_map, inl, Option, Some, None, refl, sym, ap, ap₂, subst, ◌∙◌, eqb-true, arith}
use Rattle.std.proofs.lemmas.Bool.{both_ways, and_parts}
use Rattle.std.specs.List.{AllByRecursion}
use Rattle.cv_syntax_trees.specs.declared.head.Head.{Head}
use Rattle.cv_syntax_trees.specs.declared.head.Head.TheVariants.{Repl, In, Out, Event, New, Let, If, Find, Branch, Leaf, Read, Binder, Key, Call}
use Rattle.cv_syntax_trees.specs.Tree.{Tree, Empty, Node, first, first_place, second_place}
use Rattle.cv_meaning.specs.Tapes.{Cell, New_at, Find_at, Test_at, Key_at, Made_at, Picked_at, Coin, is_in, same_cell}
use Rattle.cv_meaning.specs.Side.{CallNumber}
use Rattle.cv_meaning.specs.Interpretation.{Interpretation, Setting}
use Rattle.cv_meaning.specs.Runs.{Mode, Events, Real, Random, Adversary}
use Rattle.cv_meaning.specs.Cells.{at_each_copy, bounds_under, cells, cells_at, coin_cells, if_tested, test_cells, test_cells_at, tuples_below, without_repeats}
use Rattle.cv_meaning_laws.proofs.Lists.{each_flat_map}
use Rattle.cv_meaning_laws.proofs.Listed.{Has, each_flat_map_in, has_flat_map, has_left, is_in_without_repeats}
use Rattle.cv_meaning_runs.specs.Listed.{IsTestable, has_no_calls, head_is_no_call, head_is_testable, is_testable}
use Rattle.cv_meaning.specs.contexts.Groups.{Function, Group, function_at}
use Rattle.cv_meaning.specs.contexts.Sites.{is_call}
use Rattle.cv_meaning.specs.contexts.Sides.{body_cells, cells_here, chosen_cell, function_cells}
use Rattle.cv_meaning.specs.contexts.Bodies.{function_called}
use Rattle.cv_meaning.specs.contexts.Roles.{Role, Plain, Replication, Gone, TheKeyName, Variable, Index}
use Rattle.cv_inline.specs.Draws.{same_role}
use Rattle.cv_inline.specs.NextGame.{Calling, call_of, calling, callings_from, next_in, replications_under}
use Rattle.cv_inline_laws.specs.runs.Texts.{Text, oracles_in}
use Rattle.cv_inline_laws.specs.runs.Contexts.{context_setting}
use Rattle.cv_inline_names_laws.specs.cells.Cells.{RightNames, at_right, find_for, is_that_find, names_in, new_for}
use Rattle.cv_inline_names_laws.specs.cells.Layout.{IsContextText, IsLaidOut, IsPattern, IsTypedBy, IsTypedFunction, Types, is_term, is_term_head}
use Rattle.cv_inline_names_laws.proofs.cells.Nodes.{EachNode, NodeFact, each_copy, each_weaker, has_copy, node_with, term_bounds, term_each}
use Rattle.cv_inline_names_laws.proofs.cells.Terms.{IsTerm}
use Rattle.cv_inline_names_laws.proofs.cells.Next.{HoldsInNext, is_other, next_each, other_term}
use Rattle.cv_syntax_trees.proofs.lists.Each.{AllByRecursion_append}
use Rattle.cv_syntax_trees.specs.lists.Options.{first_of}

abbrev coin_size : List ℕ → ℕ → ℕ
coin_size [] k = 0
coin_size (n ∷ ns) zero = n
coin_size (n ∷ ns) (suc k) = coin_size ns k

abbrev tested_in : Mode → ℕ
tested_in Events = 0
tested_in (Real one x) = x
tested_in (Random one x) = x

-- a variable that is asked for is one of the game
abbrev pub IsAskedPlain : Text → Mode → Type 0
IsAskedPlain T Events = Unit {0}
IsAskedPlain T (Real one x) = T.role x ≡ Plain
IsAskedPlain T (Random one x) = T.role x ≡ Plain

module _ (T : Text) (find : ℕ → Option (ℕ × ℕ)) (types : Types) (m : Mode) (a : Adversary) where
  abbrev i : Interpretation
  i = T.g.interpretation

  abbrev n : RightNames
  n = names_in T find

  -- the type of a name
  abbrev type_for : Role → ℕ → ℕ
  type_for TheKeyName y = T.calls.group.key.1
  type_for (Variable s v) y = types.at_site s v
  type_for r y = types.game y

  abbrev pub size_of : Cell → ℕ
  size_of (New_at y w) = i.type_size (type_for (T.role y) y)
  size_of (Find_at l w) = i.choices
  size_of (Test_at w) = i.type_size (types.game (tested_in m))
  size_of (Key_at w) = i.type_size T.calls.group.key.1
  size_of (Made_at v w s) = i.type_size (types.at_site s v)
  size_of (Picked_at q w s) = i.choices
  size_of (Coin k) = coin_size a.coins k

  -- cells are swapped with cells of their size

  new_size : (y : ℕ) (w : List ℕ) (r : Role) → T.role y ≡ r → size_of (new_for n y w r) ≡ i.type_size (type_for r y)
  new_size y w TheKeyName e = go (T.calls.drawn.key == y)
    where
      go : (b : Bool) → size_of (cond b (Key_at w) (New_at y w)) ≡ i.type_size T.calls.group.key.1
      go true = refl
      go false = ap (λ r. i.type_size (type_for r y)) e
  new_size y w (Variable s v) e = go (T.calls.drawn.variable s v == y)
    where
      go : (b : Bool) → size_of (cond b (Made_at v w s) (New_at y w)) ≡ i.type_size (types.at_site s v)
      go true = refl
      go false = ap (λ r. i.type_size (type_for r y)) e
  new_size y w Plain e = ap (λ r. i.type_size (type_for r y)) e
  new_size y w Replication e = ap (λ r. i.type_size (type_for r y)) e
  new_size y w Gone e = ap (λ r. i.type_size (type_for r y)) e
  new_size y w (Index s q o b k) e = ap (λ r. i.type_size (type_for r y)) e

  find_size : (l : ℕ) (w : List ℕ) (o : Option (ℕ × ℕ)) → size_of (find_for n l w o) ≡ i.choices
  find_size l w None = refl
  find_size l w (Some f) = go (T.calls.drawn.label f.0 f.1 == l)
    where
      go : (b : Bool) → size_of (cond b (Picked_at f.1 w f.0) (Find_at l w)) ≡ i.choices
      go true = refl
      go false = refl

  made_size : (v : ℕ) (w : List ℕ) (s : ℕ) (r : Role) → T.role (T.calls.drawn.variable s v) ≡ r → size_of (cond (same_role r (Variable s v)) (New_at (T.calls.drawn.variable s v) w) (Made_at v w s)) ≡ i.type_size (types.at_site s v)
  made_size v w s (Variable z x) e = go ((z == s) && (x == v)) refl
    where
      go : (b : Bool) → ((z == s) && (x == v)) ≡ b → size_of (cond b (New_at (T.calls.drawn.variable s v) w) (Made_at v w s)) ≡ i.type_size (types.at_site s v)
      go true f =
          let p = and_parts (z == s) (x == v) f in
          ap (λ r. i.type_size (type_for r (T.calls.drawn.variable s v))) e ∙ ap₂ (λ c d. i.type_size (types.at_site c d)) (eqb-true z s p.0) (eqb-true x v p.1)
      go false f = refl
  made_size v w s TheKeyName e = refl
  made_size v w s Plain e = refl
  made_size v w s Replication e = refl
  made_size v w s Gone e = refl
  made_size v w s (Index z q o b k) e = refl

  pub same_size : (c : Cell) → size_of (at_right n c) ≡ size_of c
  same_size (New_at y w) = new_size y w (T.role y) refl
  same_size (Find_at l w) = find_size l w (find l)
  same_size (Test_at w) = refl
  same_size (Key_at w) =
      ap (λ r. size_of (cond (same_role r TheKeyName) (New_at T.calls.drawn.key w) (Key_at w))) T.key_role ∙ ap (λ r. i.type_size (type_for r T.calls.drawn.key)) T.key_role
  same_size (Made_at v w s) = made_size v w s (T.role (T.calls.drawn.variable s v)) refl
  same_size (Picked_at q w s) = go (is_that_find (find (T.calls.drawn.label s q)) (s, q))
    where
      go : (b : Bool) → size_of (cond b (Find_at (T.calls.drawn.label s q) w) (Picked_at q w s)) ≡ i.choices
      go true = refl
      go false = refl
  same_size (Coin k) = refl

  -- lists

  abbrev pub IsSized : Cell × ℕ → Type 0
  IsSized c = c.1 ≡ size_of c.0

  filter_keeps : (P : Cell × ℕ → Type 0) (p : Cell × ℕ → Bool) (cs : List (Cell × ℕ)) → AllByRecursion P cs → AllByRecursion P (filter p cs)
  filter_keeps P p [] e = tt
  filter_keeps P p (c ∷ cs) e = go (p c) (filter_keeps P p cs e.1)
    where
      go : (b : Bool) → AllByRecursion P (filter p cs) → AllByRecursion P (cond b (c ∷ filter p cs) (filter p cs))
      go true k = (e.0, k)
      go false k = k

  each_once : (P : Cell × ℕ → Type 0) (cs : List (Cell × ℕ)) → AllByRecursion P cs → AllByRecursion P (without_repeats cs)
  each_once P [] e = tt
  each_once P (c ∷ cs) e = (e.0, filter_keeps P (λ (d : Cell × ℕ). not (same_cell d.0 c.0)) (without_repeats cs) (each_once P cs e.1))

  coins_sized : (P : Cell × ℕ → Type 0) → ((k s : ℕ) → s ≡ coin_size a.coins k → P (Coin k, s)) → (k : ℕ) (ns : List ℕ) → ((j : ℕ) → coin_size a.coins (j + k) ≡ coin_size ns j) → AllByRecursion P (coin_cells k ns)
  coins_sized P f k [] e = tt
  coins_sized P f k (s ∷ ns) e = (
    f k s (sym (ap (coin_size a.coins) (let z : k ≡ 0 + k = omega arith in z) ∙ e 0)),
    coins_sized P f (suc k) ns (λ j. ap (coin_size a.coins) (let z : j + suc k ≡ suc j + k = omega arith in z) ∙ e (suc j)),
  )

  all_coins : (P : Cell × ℕ → Type 0) → ((k s : ℕ) → s ≡ coin_size a.coins k → P (Coin k, s)) → AllByRecursion P (coin_cells 0 a.coins)
  all_coins P f = coins_sized P f 0 a.coins (λ j. ap (coin_size a.coins) (let z : j + 0 ≡ j = omega arith in z))

  -- the context

  abbrev c : Setting
  c = context_setting T

  abbrev ContextFact : NodeFact
  ContextFact bounds (New x U) t = (T.role x ≡ Plain) × (U ≡ types.game x)
  ContextFact bounds (Let x U) t = U ≡ types.game x
  ContextFact bounds (Binder x U) t = U ≡ types.game x
  ContextFact bounds (Key x) t = T.role x ≡ Gone
  ContextFact bounds (Call x l) t = (T.role x ≡ Gone) × (is_term t ≡ true)
  ContextFact bounds (In x) (Node (Repl j k) y z) = ⊥
  ContextFact bounds h t = Unit {0}

  other_fact : (bounds : List ℕ) (h : Head) (t : Tree) → is_other h ≡ true → ContextFact bounds h t
  other_fact bounds (New x U) t e = absurd (both_ways false refl e)
  other_fact bounds (Let x U) t e = absurd (both_ways false refl e)
  other_fact bounds (Binder x U) t e = absurd (both_ways false refl e)
  other_fact bounds (Key x) t e = absurd (both_ways false refl e)
  other_fact bounds (Call x l) t e = absurd (both_ways false refl e)
  other_fact bounds (In x) t e = absurd (both_ways false refl e)
  other_fact bounds h t e = tt

  input_fact : (bounds : List ℕ) (x : ℕ) (t : Tree) → IsPattern types.game t → ContextFact bounds (In x) t
  unfolding IsPattern
  input_fact bounds x Empty e = tt
  input_fact bounds x (Node (Repl j k) y z) e = both_ways false refl e.0
  input_fact bounds x (Node h y z) e = tt

  term_facts : (bounds : List ℕ) (t : Tree) → IsTerm t → EachNode c ContextFact bounds t
  term_facts bounds t e = term_each c ContextFact (λ bs h b k. other_fact bs h b (other_term h k)) bounds t e

  pattern_facts : (bounds : List ℕ) (t : Tree) → IsPattern types.game t → EachNode c ContextFact bounds t
  unfolding IsPattern EachNode
  pattern_facts bounds Empty e = tt
  pattern_facts bounds (Node (Binder y U) t b) e = node_with c ContextFact bounds (Binder y U) t b refl e.0 (pattern_facts bounds t e.1) (pattern_facts bounds b e.2)
  pattern_facts bounds (Node h t b) e = node_with c ContextFact bounds h t b (term_bounds c bounds h e.0) (other_fact bounds h t (other_term h e.0)) (pattern_facts bounds t e.1) (pattern_facts bounds b e.2)

  context_facts : (bounds : List ℕ) (t : Tree) → IsContextText T types.game t → EachNode c ContextFact bounds t
  unfolding IsContextText EachNode
  context_facts bounds Empty e = tt
  context_facts bounds (Node (Key x) t b) e = (e.0, term_facts bounds t e.1, context_facts bounds b e.2)
  context_facts bounds (Node (Call x l) t b) e = ((e.0, e.1), term_facts bounds t e.1, context_facts bounds b e.3)
  context_facts bounds (Node (New x U) t b) e = ((e.0, e.1), context_facts bounds t e.2, context_facts bounds b e.3)
  context_facts bounds (Node (Let x U) t b) e = (e.0, term_facts bounds t e.1, context_facts bounds b e.2)
  context_facts bounds (Node If t b) e = (tt, term_facts bounds t e.0, context_facts bounds b e.1)
  context_facts bounds (Node (Event v) t b) e = (tt, term_facts bounds t e.0, context_facts bounds b e.1)
  context_facts bounds (Node (Out v) t b) e = (tt, term_facts bounds t e.0, context_facts bounds b e.1)
  context_facts bounds (Node (In v) t b) e = (input_fact bounds v t e.0, pattern_facts bounds t e.0, context_facts bounds b e.1)
  context_facts bounds (Node Branch t b) e = (tt, pattern_facts bounds t e.0, context_facts bounds b e.1)
  context_facts bounds (Node (Leaf x) t b) e = (tt, term_facts bounds t e.0, term_facts bounds b e.1)
  context_facts bounds (Node (Read x) t b) e = (tt, term_facts bounds t e.0, term_facts bounds b e.1)
  context_facts bounds (Node (Binder y U) t b) e = absurd e
  context_facts bounds (Node h t b) e = (other_fact bounds h t refl, context_facts (bounds_under c bounds h) t e.0, context_facts (bounds_under c bounds h) b e.1)

  -- each call has terms for its key and its arguments

  call_at : (l : ℕ) (h : Head) (t : Tree) (bounds : List ℕ) → is_call l h ≡ true → ContextFact bounds h t → is_term t ≡ true
  call_at l (Call x k) t bounds e f = f.1
  call_at l h t bounds e f = absurd (both_ways false refl e)

  call_terms : (l : ℕ) (t : Tree) (rs : List (ℕ × ℕ)) (bounds : List ℕ) → EachNode c ContextFact bounds t → (k : List (ℕ × ℕ) × Tree) → call_of rs l t ≡ Some k → is_term k.1 ≡ true
  unfolding EachNode call_of
  call_terms l Empty rs bounds f k e = absurd (cc)
  call_terms l (Node h t b) rs bounds f k e =
      go (is_call l h) refl e (λ q. call_terms l t (replications_under h rs) (bounds_under c bounds h) f.1 k q) (λ q. call_terms l b (replications_under h rs) (bounds_under c bounds h) f.2 k q)
    where
      either : (q r : Option (List (ℕ × ℕ) × Tree)) → first_of q r ≡ Some k → (q ≡ Some k → is_term k.1 ≡ true) → (r ≡ Some k → is_term k.1 ≡ true) → is_term k.1 ≡ true
      either None r e f g = g e
      either (Some x) r e f g = f e

      go : (z : Bool) → is_call l h ≡ z → cond z (Some (rs, t)) (first_of (call_of (replications_under h rs) l t) (call_of (replications_under h rs) l b)) ≡ Some k
          → (call_of (replications_under h rs) l t ≡ Some k → is_term k.1 ≡ true) → (call_of (replications_under h rs) l b ≡ Some k → is_term k.1 ≡ true) → is_term k.1 ≡ true
      go true z e x y = let q : (rs, t) ≡ k = cc in subst (λ (p : List (ℕ × ℕ) × Tree). is_term p.1 ≡ true) q (call_at l h t bounds z f.0)
      go false z e x y = either (call_of (replications_under h rs) l t) (call_of (replications_under h rs) l b) e x y

  first_term : (t : Tree) → is_term t ≡ true → is_term (first t) ≡ true
  unfolding is_term
  first_term Empty e = refl
  first_term (Node h x y) e = (and_parts (is_term x) _ (and_parts (is_term_head h) _ e).1).0

  calling_key : (context : Tree) → IsContextText T types.game context → (l : ℕ) (o : Option Function) (k : Option (List (ℕ × ℕ) × Tree)) → call_of [] l context ≡ k → AllByRecursion (λ (x : Calling). is_term x.caller.key ≡ true) (calling l o k)
  calling_key context f l None k e = tt
  calling_key context f l (Some fn) None e = tt
  calling_key context f l (Some fn) (Some k) e = (first_term (first k.1) (first_term k.1 (call_terms l context [] [] (context_facts [] context f) k e)), tt)

  each_calling : (P : Calling → Type 0) (xs ys : List Calling) → AllByRecursion P xs → AllByRecursion P ys → AllByRecursion P (xs ++ ys)
  each_calling P [] ys x y = y
  each_calling P (z ∷ xs) ys x y = (x.0, each_calling P xs ys x.1 y)

  pub keys_are_terms : (context : Tree) → IsContextText T types.game context → (group : Group) (l : ℕ) (fs : List ℕ) → AllByRecursion (λ (x : Calling). is_term x.caller.key ≡ true) (callings_from group context l fs)
  unfolding callings_from
  keys_are_terms context f group l [] = tt
  keys_are_terms context f group l (p ∷ fs) =
      each_calling (λ (x : Calling). is_term x.caller.key ≡ true) (calling l (function_at group p) (call_of [] l context)) (callings_from group context (suc l) fs)
      (calling_key context f l (function_at group p) (call_of [] l context) refl) (keys_are_terms context f group (suc l) fs)

  -- the cells of a call

  body_sized : (k : CallNumber) (p : ℕ) (t : Tree) → IsTypedBy (types.at_site k.site) t → AllByRecursion IsSized (body_cells i k p t)
  unfolding body_cells IsTypedBy
  body_sized k p Empty e = tt
  body_sized k p (Node (New z U) t b) e =
      AllByRecursion_append IsSized (cells_here i k p (New z U)) _ (ap i.type_size e.0, tt) (AllByRecursion_append IsSized (body_cells i k (first_place p (New z U)) t) _ (body_sized k (first_place p (New z U)) t e.1) (body_sized k (second_place p (New z U) t) b e.2))
  body_sized k p (Node (Find l) t b) e =
      AllByRecursion_append IsSized (cells_here i k p (Find l)) _ (refl, tt) (AllByRecursion_append IsSized (body_cells i k (first_place p (Find l)) t) _ (body_sized k (first_place p (Find l)) t e.0) (body_sized k (second_place p (Find l) t) b e.1))
  body_sized k p (Node h t b) e = AllByRecursion_append IsSized (cells_here i k p h) _ tt (AllByRecursion_append IsSized (body_cells i k (first_place p h) t) _ (body_sized k (first_place p h) t e.0) (body_sized k (second_place p h t) b e.1))

  coins_of_call : (k : CallNumber) (xs : List (ℕ × ℕ)) → AllByRecursion (λ (x : ℕ × ℕ). x.1 ≡ types.at_site k.site x.0) xs → AllByRecursion IsSized (map (chosen_cell i k) xs)
  coins_of_call k [] e = tt
  coins_of_call k (x ∷ xs) e = (ap i.type_size e.0, coins_of_call k xs e.1)

  call_sized : (k : CallNumber) (o : Option Function) → ((f : Function) → o ≡ Some f → IsTypedFunction T (types.at_site k.site) f) → AllByRecursion IsSized (function_cells i k o)
  call_sized k None e = tt
  call_sized k (Some f) e =
      let p = e f refl in each_once IsSized (map (chosen_cell i k) f.coins ++ body_cells i k 0 f.body) (AllByRecursion_append IsSized (map (chosen_cell i k) f.coins) _ (coins_of_call k f.coins p.coins) (body_sized k 0 f.body p.body))

  module _ (context : Tree) (laid : IsLaidOut T types context) (asked : IsAskedPlain T m) where
    context_node : (bounds : List ℕ) (h : Head) (t : Tree) → ContextFact bounds h t → AllByRecursion IsSized (flat_map (cells_at c h) (tuples_below bounds))
    context_node bounds (New x U) t e =
        each_flat_map IsSized (cells_at c (New x U)) (tuples_below bounds) (λ w. (ap i.type_size (e.1 ∙ sym (ap (λ r. type_for r x) e.0)), tt))
    context_node bounds (Find l) t e = each_flat_map IsSized (cells_at c (Find l)) (tuples_below bounds) (λ w. (refl, tt))
    context_node bounds (Key x) t e = each_flat_map IsSized (cells_at c (Key x)) (tuples_below bounds) (λ w. (refl, tt))
    context_node bounds (Call x l) t e =
        each_flat_map IsSized (cells_at c (Call x l)) (tuples_below bounds)
        (λ w. call_sized (record { tuple = w; site = l }) (function_called (oracles_in T) (record { tuple = w; site = l })) (laid.functions (record { tuple = w; site = l })))
    context_node bounds h t e = each_flat_map IsSized (cells_at c h) (tuples_below bounds) (λ w. tt)

    if_sized : (P : Cell × ℕ → Type 0) → ((w : List ℕ) (s : ℕ) → s ≡ i.type_size (types.game (tested_in m)) → P (Test_at w, s)) → (x y U : ℕ) (w : List ℕ) → tested_in m ≡ x → (y ≡ x → U ≡ types.game y) → AllByRecursion P (if_tested (y == x) w (i.type_size U))
    if_sized P f x y U w e k = go (y == x) refl
      where
        go : (b : Bool) → (y == x) ≡ b → AllByRecursion P (if_tested b w (i.type_size U))
        go true h = (f w (i.type_size U) (ap i.type_size (k (eqb-true y x h) ∙ ap types.game (eqb-true y x h ∙ sym e))), tt)
        go false h = tt

    context_tested : (x : ℕ) → tested_in m ≡ x → (bounds : List ℕ) (h : Head) (t : Tree) → ContextFact bounds h t → AllByRecursion IsSized (flat_map (test_cells_at c x h) (tuples_below bounds))
    context_tested x f bounds (New y U) t e = each_flat_map IsSized (test_cells_at c x (New y U)) (tuples_below bounds) (λ w. if_sized IsSized (λ w s k. k) x y U w f (λ z. e.1))
    context_tested x f bounds (Let y U) t e = each_flat_map IsSized (test_cells_at c x (Let y U)) (tuples_below bounds) (λ w. if_sized IsSized (λ w s k. k) x y U w f (λ z. e))
    context_tested x f bounds (Binder y U) t e = each_flat_map IsSized (test_cells_at c x (Binder y U)) (tuples_below bounds) (λ w. if_sized IsSized (λ w s k. k) x y U w f (λ z. e))
    context_tested x f bounds h t e = each_flat_map IsSized (test_cells_at c x h) (tuples_below bounds) (λ w. tt)

    facts : EachNode c ContextFact [] context
    facts = context_facts [] context laid.text

    context_tests : (mode : Mode) → mode ≡ m → AllByRecursion IsSized (test_cells c mode context)
    context_tests Events e = tt
    context_tests (Real one x) e = each_copy c (test_cells_at c x) IsSized [] context (each_weaker c ContextFact (λ bs h t. AllByRecursion IsSized (flat_map (test_cells_at c x h) (tuples_below bs))) (context_tested x (ap tested_in (sym e))) [] context facts)
    context_tests (Random one x) e = each_copy c (test_cells_at c x) IsSized [] context (each_weaker c ContextFact (λ bs h t. AllByRecursion IsSized (flat_map (test_cells_at c x h) (tuples_below bs))) (context_tested x (ap tested_in (sym e))) [] context facts)

    pub context_sized : AllByRecursion IsSized (cells c m a context)
    unfolding cells
    context_sized =
        each_once IsSized (at_each_copy c (cells_at c) [] context ++ (test_cells c m context ++ coin_cells 0 a.coins))
        (AllByRecursion_append IsSized (at_each_copy c (cells_at c) [] context) _ (each_copy c (cells_at c) IsSized [] context (each_weaker c ContextFact (λ bs h t. AllByRecursion IsSized (flat_map (cells_at c h) (tuples_below bs))) context_node [] context facts))
        (AllByRecursion_append IsSized (test_cells c m context) _ (context_tests m refl) (all_coins IsSized (λ k s e. e))))

    -- tests of the context and of the next game

    abbrev IsTested : ℕ → NodeFact
    IsTested x bounds h t = head_is_testable x h t ≡ true

    each_tested : (g : Setting) (x : ℕ) (bounds : List ℕ) (t : Tree) → EachNode g (IsTested x) bounds t → is_testable x t ≡ true
    unfolding EachNode
    each_tested g x bounds Empty e = refl
    each_tested g x bounds (Node h t b) e = ap₂ (λ r s. r && s) e.0 (ap₂ (λ r s. r && s) (each_tested g x (bounds_under g bounds h) t e.1) (each_tested g x (bounds_under g bounds h) b e.2))

    gone_apart : (x y : ℕ) → T.role x ≡ Plain → T.role y ≡ Gone → not (y == x) ≡ true
    gone_apart x y e f = go (y == x) refl
      where
        go : (b : Bool) → (y == x) ≡ b → not b ≡ true
        go true h = absurd (let z : Plain ≡ Gone = sym e ∙ (sym (ap T.role (eqb-true y x h)) ∙ f) in cc)
        go false h = refl

    context_node_tested : (x : ℕ) → T.role x ≡ Plain → (bounds : List ℕ) (h : Head) (t : Tree) → ContextFact bounds h t → IsTested x bounds h t
    context_node_tested x p bounds (Key y) t e = gone_apart x y p e
    context_node_tested x p bounds (Call y l) t e = gone_apart x y p e.0
    context_node_tested x p bounds (In y) (Node (Repl j k) u v) e = absurd e
    context_node_tested x p bounds (In y) t e = refl
    context_node_tested x p bounds h t e = refl

    context_testable_in : (mode : Mode) → IsAskedPlain T mode → IsTestable mode context
    context_testable_in Events e = tt
    context_testable_in (Real one x) e = tt
    context_testable_in (Random one x) e = each_tested c x [] context (each_weaker c ContextFact (IsTested x) (context_node_tested x e) [] context facts)

    pub context_testable : IsTestable m context
    context_testable = context_testable_in m asked

    -- the next game

    abbrev IsKeyListed : List ℕ → Type 0
    IsKeyListed w = is_in (cells c m a context) (Key_at w) ≡ true

    -- a cell of the drawn key is that of a key of the context; a key is none of the game's
    abbrev pub IsOfKey : Cell → Type 0
    IsOfKey (New_at y w) = T.role y ≡ TheKeyName → IsKeyListed w
    IsOfKey (Key_at w) = ⊥
    IsOfKey d = Unit {0}

    abbrev pub IsKnown : Cell × ℕ → Type 0
    IsKnown d = (d.1 ≡ size_of d.0) × IsOfKey d.0

    abbrev AreKeysBelow : List ℕ → Type 0
    AreKeysBelow bounds = (w : List ℕ) → Has (tuples_below bounds) w → IsKeyListed w

    abbrev KeyFact : NodeFact
    KeyFact bounds (Key x) t = AreKeysBelow bounds
    KeyFact bounds h t = Unit {0}

    abbrev GameFact : NodeFact
    GameFact bounds (New y U) t = (U ≡ type_for (T.role y) y) × (T.role y ≡ TheKeyName → AreKeysBelow bounds)
    GameFact bounds (Let y U) t = T.role y ≡ Plain → U ≡ types.game y
    GameFact bounds (Binder y U) t = T.role y ≡ Plain → U ≡ types.game y
    GameFact bounds (Key x) t = ⊥
    GameFact bounds (Call x l) t = ⊥
    GameFact bounds (In x) (Node (Repl j k) y z) = ⊥
    GameFact bounds h t = Unit {0}

    other_game : (bounds : List ℕ) (h : Head) (t : Tree) → is_other h ≡ true → GameFact bounds h t
    other_game bounds (New x U) t e = absurd (both_ways false refl e)
    other_game bounds (Let x U) t e = absurd (both_ways false refl e)
    other_game bounds (Binder x U) t e = absurd (both_ways false refl e)
    other_game bounds (Key x) t e = absurd (both_ways false refl e)
    other_game bounds (Call x l) t e = absurd (both_ways false refl e)
    other_game bounds (In x) t e = absurd (both_ways false refl e)
    other_game bounds h t e = tt

    input_game : (bounds : List ℕ) (x : ℕ) (t : Tree) → IsPattern types.game t → GameFact bounds (In x) t
    unfolding IsPattern
    input_game bounds x Empty e = tt
    input_game bounds x (Node (Repl j k) y z) e = both_ways false refl e.0
    input_game bounds x (Node h y z) e = tt

    holds : HoldsInNext T types GameFact KeyFact
    holds = record {
      other = other_game;
      chosen = λ bounds x U t p e. (e ∙ sym (ap (λ r. type_for r x) p), λ k. absurd (let z : Plain ≡ TheKeyName = sym p ∙ k in cc));
      assigned = λ bounds x U t e p. e;
      bound = λ bounds x U t e p. e;
      input = input_game;
      key = λ bounds x t e. (sym (ap (λ r. type_for r T.calls.drawn.key) T.key_role), λ k. e);
      drawn = λ bounds s z U h e. (
        e ∙ sym (ap (λ r. type_for r (T.calls.drawn.variable s z)) (T.variables s z h)),
        λ k. absurd (let w : Variable s z ≡ TheKeyName = sym (T.variables s z h) ∙ k in cc),
      );
      drawn_assigned = λ bounds s z U t h p. absurd (let w : Variable s z ≡ Plain = sym (T.variables s z h) ∙ p in cc);
      index = λ bounds s q o b k U t h l p. absurd (let w : Index s q o b k ≡ Plain = sym (T.indices s q o b k h l) ∙ p in cc);
    }

    key_listed : (w : List ℕ) (s : ℕ) → Has (at_each_copy c (cells_at c) [] context) (Key_at w, s) → IsKeyListed w
    unfolding cells
    key_listed w s h =
        let rest = test_cells c m context ++ coin_cells 0 a.coins in is_in_without_repeats (at_each_copy c (cells_at c) [] context ++ rest) (Key_at w, s) (has_left (at_each_copy c (cells_at c) [] context) rest (Key_at w, s) h)

    key_node : (bounds : List ℕ) (h : Head) (t : Tree) → ((e : Cell × ℕ) → Has (flat_map (cells_at c h) (tuples_below bounds)) e → Has (at_each_copy c (cells_at c) [] context) e) → KeyFact bounds h t
    key_node bounds (Key x) t f = λ w h. key_listed w c.side.key_size (f (Key_at w, c.side.key_size) (has_flat_map (cells_at c (Key x)) (tuples_below bounds) w (Key_at w, c.side.key_size) h (inl refl)))
    key_node bounds h t f = tt

    same_under : (bounds : List ℕ) (h : Head) → bounds_under c bounds h ≡ bounds_under T.g bounds h
    same_under bounds (Repl j k) = refl
    same_under bounds h = refl

    in_game_setting : (P : NodeFact) (bounds : List ℕ) (t : Tree) → EachNode c P bounds t → EachNode T.g P bounds t
    unfolding EachNode
    in_game_setting P bounds Empty e = tt
    in_game_setting P bounds (Node h t b) e = (
      e.0,
      in_game_setting P (bounds_under T.g bounds h) t (subst (λ bs. EachNode c P bs t) (same_under bounds h) e.1),
      in_game_setting P (bounds_under T.g bounds h) b (subst (λ bs. EachNode c P bs b) (same_under bounds h) e.2),
    )

    abbrev next : Tree
    next = next_in T.calls [] context

    game_facts : EachNode T.g GameFact [] (next_in T.calls [] context)
    game_facts =
        next_each T types GameFact KeyFact holds laid.calls context [] [] tt laid.text
        (in_game_setting KeyFact [] context (each_weaker c (λ bs h t. (e : Cell × ℕ) → Has (flat_map (cells_at c h) (tuples_below bs)) e → Has (at_each_copy c (cells_at c) [] context) e) KeyFact key_node [] context
        (has_copy c (cells_at c) (at_each_copy c (cells_at c) [] context) [] context (λ e h. h))))

    next_node : (bounds : List ℕ) (h : Head) (t : Tree) → GameFact bounds h t → AllByRecursion IsKnown (flat_map (cells_at T.g h) (tuples_below bounds))
    next_node bounds (New y U) t e = each_flat_map_in IsKnown (cells_at T.g (New y U)) (tuples_below bounds) (λ w h. ((ap i.type_size e.0, λ k. e.1 k w h), tt))
    next_node bounds (Find l) t e = each_flat_map IsKnown (cells_at T.g (Find l)) (tuples_below bounds) (λ w. ((refl, tt), tt))
    next_node bounds (Key x) t e = absurd e
    next_node bounds (Call x l) t e = absurd e
    next_node bounds h t e = each_flat_map IsKnown (cells_at T.g h) (tuples_below bounds) (λ w. tt)

    known_test : (w : List ℕ) (s : ℕ) → s ≡ i.type_size (types.game (tested_in m)) → IsKnown (Test_at w, s)
    known_test w s k = (k, tt)

    next_tested : (x : ℕ) → tested_in m ≡ x → T.role x ≡ Plain → (bounds : List ℕ) (h : Head) (t : Tree) → GameFact bounds h t → AllByRecursion IsKnown (flat_map (test_cells_at T.g x h) (tuples_below bounds))
    next_tested x f p bounds (New y U) t e =
        each_flat_map IsKnown (test_cells_at T.g x (New y U)) (tuples_below bounds) (λ w. if_sized IsKnown known_test x y U w f (λ z. e.0 ∙ ap (λ r. type_for r y) (ap T.role z ∙ p)))
    next_tested x f p bounds (Let y U) t e = each_flat_map IsKnown (test_cells_at T.g x (Let y U)) (tuples_below bounds) (λ w. if_sized IsKnown known_test x y U w f (λ z. e (ap T.role z ∙ p)))
    next_tested x f p bounds (Binder y U) t e = each_flat_map IsKnown (test_cells_at T.g x (Binder y U)) (tuples_below bounds) (λ w. if_sized IsKnown known_test x y U w f (λ z. e (ap T.role z ∙ p)))
    next_tested x f p bounds h t e = each_flat_map IsKnown (test_cells_at T.g x h) (tuples_below bounds) (λ w. tt)

    tests_from : (x : ℕ) → tested_in m ≡ x → T.role x ≡ Plain → AllByRecursion IsKnown (at_each_copy T.g (test_cells_at T.g x) [] next)
    tests_from x f p = each_copy T.g (test_cells_at T.g x) IsKnown [] next (each_weaker T.g GameFact (λ bs h t. AllByRecursion IsKnown (flat_map (test_cells_at T.g x h) (tuples_below bs))) (next_tested x f p) [] next game_facts)

    next_tests : (mode : Mode) → mode ≡ m → IsAskedPlain T mode → AllByRecursion IsKnown (test_cells T.g mode next)
    next_tests Events e p = tt
    next_tests (Real one x) e p = tests_from x (ap tested_in (sym e)) p
    next_tests (Random one x) e p = tests_from x (ap tested_in (sym e)) p

    pub next_known : AllByRecursion IsKnown (cells T.g m a next)
    unfolding cells
    next_known =
        each_once IsKnown (at_each_copy T.g (cells_at T.g) [] next ++ (test_cells T.g m next ++ coin_cells 0 a.coins))
        (AllByRecursion_append IsKnown (at_each_copy T.g (cells_at T.g) [] next) _ (each_copy T.g (cells_at T.g) IsKnown [] next (each_weaker T.g GameFact (λ bs h t. AllByRecursion IsKnown (flat_map (cells_at T.g h) (tuples_below bs))) next_node [] next game_facts))
        (AllByRecursion_append IsKnown (test_cells T.g m next) _ (next_tests m refl asked) (all_coins IsKnown (λ k s e. (e, tt)))))

    game_node_tested : (x : ℕ) (bounds : List ℕ) (h : Head) (t : Tree) → GameFact bounds h t → IsTested x bounds h t
    game_node_tested x bounds (Key y) t e = absurd e
    game_node_tested x bounds (Call y l) t e = absurd e
    game_node_tested x bounds (In y) (Node (Repl j k) u v) e = absurd e
    game_node_tested x bounds (In y) t e = refl
    game_node_tested x bounds h t e = refl

    next_testable_in : (mode : Mode) → IsTestable mode next
    next_testable_in Events = tt
    next_testable_in (Real one x) = tt
    next_testable_in (Random one x) = each_tested T.g x [] next (each_weaker T.g GameFact (IsTested x) (game_node_tested x) [] next game_facts)

    pub next_testable : IsTestable m next
    next_testable = next_testable_in m

    no_calls : (bounds : List ℕ) (t : Tree) → EachNode T.g GameFact bounds t → has_no_calls t ≡ true
    unfolding EachNode
    no_calls bounds Empty e = refl
    no_calls bounds (Node h t b) e = ap₂ (λ r s. r && s) (here h e.0) (ap₂ (λ r s. r && s) (no_calls (bounds_under T.g bounds h) t e.1) (no_calls (bounds_under T.g bounds h) b e.2))
      where
        here : (h : Head) → GameFact bounds h t → head_is_no_call h ≡ true
        here (Call x l) e = absurd e
        here h e = refl

    pub next_no_calls : has_no_calls next ≡ true
    next_no_calls = no_calls [] next game_facts
