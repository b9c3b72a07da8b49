-- What holds of each node of the next game, from what holds of the context's nodes and of the right bodies.
use Rattle.std.proofs.Common.{◌≡◌, ℕ, zero, suc, ◌+◌, ◌<◌, Bool, true, false, cond, ◌==◌, List, [], ◌∷◌, map, length, Option, Some, None, refl, subst, arith}
use Rattle.std.proofs.lemmas.Bool.{both_ways}
use Rattle.std.specs.List.{AllByRecursion}
use Rattle.cv_syntax_trees.specs.declared.head.Head.{Head}
use Rattle.cv_syntax_trees.specs.declared.head.Head.TheVariants.{In, Out, Event, New, Let, If, Find, Branch, Leaf, Read, No, Cons, Binder, Key, Call}
use Rattle.cv_syntax_trees.specs.Tree.{Tree, Empty, Node, binders, first_place, lone, second, second_place}
use Rattle.cv_meaning.specs.Cells.{bounds_under}
use Rattle.cv_meaning.specs.contexts.Bodies.{body_place}
use Rattle.cv_meaning.specs.contexts.Roles.{Plain}
use Rattle.cv_meaning.specs.contexts.Inlined.{Drawn, Caller, TheKey, Own, Scope, branch_for, branch_indices, cells_in_game, cells_then, each_once, expanded, expanded_at, find_or_else, in_game, index_moves, index_terms, inlined_body, inlined_branch, inlined_call, is_index_of, moved, needed, with_call_of}
use Rattle.cv_inline.specs.NextGame.{Calling, Results, call_in_game, callers_of, game_name, next_in, numbered, with_results}
use Rattle.cv_inline_laws.specs.runs.Texts.{Text}
use Rattle.cv_inline_names_laws.specs.cells.Layout.{AreRightBranches, IsCallText, IsContextText, IsPattern, IsRightText, IsTypedBy, Types, is_term_head}
use Rattle.cv_inline_names_laws.proofs.cells.Nodes.{EachNode, NodeFact, node_with, term_bounds, term_each}
use Rattle.cv_inline_names_laws.proofs.cells.Terms.{AreResults, HasTerms, IsTerm, cells_term, equal_term, in_game_term, index_term, lone_term, moved_term, moved_terms, moves_terms, needed_terms, once_terms, reads_term, results_term, term_parts, then_term}

-- no definition, key or call, and no input
abbrev pub is_other : Head → Bool
is_other (New x U) = false
is_other (Let x U) = false
is_other (Binder x U) = false
is_other (Key x) = false
is_other (Call x l) = false
is_other (In c) = false
is_other h = true

pub other_term : (h : Head) → is_term_head h ≡ true → is_other h ≡ true
other_term (New x U) e = e
other_term (Let x U) e = e
other_term (Binder x U) e = e
other_term (Key x) e = e
other_term (Call x l) e = e
other_term (In c) e = e
other_term h e = refl

no_if : (a b : Tree) → IsTerm (Node If a b) → ⊥
no_if a b e = both_ways false refl (term_parts If a b e).0

-- a fact that holds of the nodes of the next game one by one
pub record HoldsInNext (T : Text) (types : Types) (P Q : NodeFact) : Type 0 where
  pub other : (bounds : List ℕ) (h : Head) (a : Tree) → is_other h ≡ true → P bounds h a
  pub chosen : (bounds : List ℕ) (x U : ℕ) (a : Tree) → T.role x ≡ Plain → U ≡ types.game x → P bounds (New x U) a
  pub assigned : (bounds : List ℕ) (x U : ℕ) (a : Tree) → U ≡ types.game x → P bounds (Let x U) a
  pub bound : (bounds : List ℕ) (x U : ℕ) (a : Tree) → U ≡ types.game x → P bounds (Binder x U) a
  pub input : (bounds : List ℕ) (c : ℕ) (a : Tree) → IsPattern types.game a → P bounds (In c) a
  pub key : (bounds : List ℕ) (x : ℕ) (a : Tree) → Q bounds (Key x) a → P bounds (New T.calls.drawn.key T.calls.group.key.1) Empty
  pub drawn : (bounds : List ℕ) (s z U : ℕ) → T.has s z ≡ true → U ≡ types.at_site s z → P bounds (New (T.calls.drawn.variable s z) U) Empty
  pub drawn_assigned : (bounds : List ℕ) (s z U : ℕ) (a : Tree) → T.has s z ≡ true → P bounds (Let (T.calls.drawn.variable s z) U) a
  pub index : (bounds : List ℕ) (s q o b k U : ℕ) (a : Tree) → T.opens s q o b ≡ true → k < T.arity o → P bounds (Binder (T.calls.drawn.index s q o b k) U) a

module _ (T : Text) (types : Types) (P Q : NodeFact) (holds : HoldsInNext T types P Q) where
  abbrev Each : List ℕ → Tree → Type 0
  Each bounds t = EachNode T.g P bounds t

  abbrev d : Drawn
  d = T.calls.drawn

  of_term : (bounds : List ℕ) (t : Tree) → IsTerm t → Each bounds t
  of_term bounds t e = term_each T.g P (λ bs h a k. holds.other bs h a (other_term h k)) bounds t e

  none : (bounds : List ℕ) → Each bounds Empty
  unfolding EachNode
  none bounds = tt

  of_node : (bounds : List ℕ) (h : Head) (a b : Tree) → bounds_under T.g bounds h ≡ bounds → P bounds h a → Each bounds a → Each bounds b → Each bounds (Node h a b)
  of_node bounds h a b e p x y = node_with T.g P bounds h a b e p x y

  of_other : (bounds : List ℕ) (h : Head) (a b : Tree) → bounds_under T.g bounds h ≡ bounds → is_other h ≡ true → Each bounds a → Each bounds b → Each bounds (Node h a b)
  of_other bounds h a b e p x y = of_node bounds h a b e (holds.other bounds h a p) x y

  of_pattern : (bounds : List ℕ) (t : Tree) → IsPattern types.game t → Each bounds t
  unfolding IsPattern
  of_pattern bounds Empty e = none bounds
  of_pattern bounds (Node (Binder y U) a b) e = of_node bounds (Binder y U) a b refl (holds.bound bounds y U a e.0) (of_pattern bounds a e.1) (of_pattern bounds b e.2)
  of_pattern bounds (Node h a b) e = of_other bounds h a b (term_bounds T.g bounds h e.0) (other_term h e.0) (of_pattern bounds a e.1) (of_pattern bounds b e.2)

  -- a call

  abbrev IsCallerText : Caller → Type 0
  IsCallerText s = IsTerm s.key × (T.arity s.number ≡ length s.replications)

  module _ (bounds : List ℕ) (ss : List Caller) (fine : AllByRecursion IsCallerText ss) (c : Caller) (key : IsTerm c.key) (follows : Tree → Tree) (rest : (m : Tree) → IsTerm m → Each bounds (follows m)) where
    abbrev here : Tree
    here = index_terms c.replications

    indices_each : (q k : ℕ) (s : Caller) → T.opens c.number q s.number k ≡ true → (j : ℕ) (rs : List (ℕ × ℕ)) → j + length rs ≡ T.arity s.number → Each bounds (binders (branch_indices (d.index c.number q s.number k) j rs))
    indices_each q k s e j [] l = none bounds
    indices_each q k s e j (r ∷ rs) l =
        of_node bounds (Binder (d.index c.number q s.number k j) r.1) Empty (binders (branch_indices (d.index c.number q s.number k) (suc j) rs)) refl
        (holds.index bounds c.number q s.number k j r.1 Empty e (omega arith)) (none bounds) (indices_each q k s e (suc j) rs (omega arith))

    branch_each : (q k : ℕ) (s : Caller) → IsCallerText s → T.opens c.number q s.number k ≡ true → (Σ : Scope) → HasTerms Σ → (cells condition body : Tree) → IsTerm cells → IsTerm condition → Each bounds body
        → Each bounds (branch_for d c Σ (d.index c.number q s.number k) s cells condition body)
    branch_each q k s f e Σ v cells condition body x y z =
        let name : ℕ → ℕ = d.index c.number q s.number k in
        let ms = index_moves here name 0 s.replications in
        let moves = moves_terms here (index_term c.replications) name 0 s.replications in
        let list = cells_then (map (moved ms) (each_once (needed (is_index_of s.replications) s.key))) (cells_in_game d c Σ cells) in
        of_other bounds Branch (binders (branch_indices name 0 s.replications)) _ refl refl (indices_each q k s e 0 s.replications (omega (arith, f.1)))
        (of_other bounds Cons _ _ refl refl
        (of_term bounds _ (then_term _ (cells_in_game d c Σ cells) (moved_terms ms moves (each_once (needed (is_index_of s.replications) s.key)) (once_terms _ (needed_terms (is_index_of s.replications) s.key f.0))) (cells_term d c key Σ v cells x)))
        (of_other bounds Cons _ body refl refl (of_term bounds _ (equal_term (moved ms s.key) c.key (in_game d c Σ condition) (moved_term ms moves s.key f.0) key (in_game_term d c key Σ v condition y))) z))

    abbrev AreOpen : (q k : ℕ) → Caller → Tree → Type 0
    AreOpen q k s (Node Cons (Node Branch (Node (Binder u n) x y) (Node Cons cells (Node Cons m body))) more) =
        ((s.bound == n) ≡ true → T.opens c.number q s.number k ≡ true) × IsTerm cells × IsTerm m × AreOpen q (suc k) s more
    AreOpen q k s t = Unit {0}

    with_call_terms : (Σ : Scope) → HasTerms Σ → (u : ℕ) (name : ℕ → ℕ) (s : Caller) → HasTerms (with_call_of Σ u here name s)
    with_call_terms Σ v u name s = (reads_term here (index_term c.replications) name 0 s.replications, v)

    site_each : (q : ℕ) (inner : ℕ → Scope → Tree) → ((k : ℕ) (Σ : Scope) → HasTerms Σ → Each bounds (inner k Σ)) → (Σ : Scope) → HasTerms Σ → (s : Caller) → IsCallerText s → (k : ℕ) (t : Tree) → AreOpen q k s t → (more : Tree) → Each bounds more
        → Each bounds (expanded_at d c Σ (d.index c.number q s.number) inner s k t more)
    unfolding expanded_at
    site_each q inner i Σ v s f k (Node Cons (Node Branch (Node (Binder u n) x y) (Node Cons cells (Node Cons m body))) more) o others z =
        go (s.bound == n) refl (site_each q inner i Σ v s f (suc k) more o.3 others z)
      where
        Τ : Scope
        Τ = with_call_of Σ u here (d.index c.number q s.number k) s

        go : (b : Bool) → (s.bound == n) ≡ b → Each bounds (expanded_at d c Σ (d.index c.number q s.number) inner s (suc k) more others)
            → Each bounds (cond b (Node Cons (branch_for d c Τ (d.index c.number q s.number k) s cells m (inner k Τ)) (expanded_at d c Σ (d.index c.number q s.number) inner s (suc k) more others)) (expanded_at d c Σ (d.index c.number q s.number) inner s (suc k) more others))
        go true e w =
            let later = with_call_terms Σ v u (d.index c.number q s.number k) s in
            of_other bounds Cons _ _ refl refl (branch_each q k s f (o.0 e) Τ later cells m (inner k Τ) o.1 o.2 (i k Τ later)) w
        go false e w = w
    site_each q inner i Σ v s f k t o others z = z

    sites_each : (q : ℕ) (inner : ℕ → Scope → Tree) → ((k : ℕ) (Σ : Scope) → HasTerms Σ → Each bounds (inner k Σ)) → (Σ : Scope) → HasTerms Σ → (ts : List Caller) → AllByRecursion IsCallerText ts → (t : Tree) → AllByRecursion (λ s. AreOpen q 0 s t) ts
        → Each bounds (expanded d c Σ (d.index c.number q) inner ts t)
    unfolding expanded
    sites_each q inner i Σ v [] f t o = none bounds
    sites_each q inner i Σ v (s ∷ ts) f t o = site_each q inner i Σ v s f.0 0 t o.0 (expanded d c Σ (d.index c.number q) inner ts t) (sites_each q inner i Σ v ts f.1 t o.1)

    find_each : (l : ℕ) (branches otherwise : Tree) → Each bounds branches → Each bounds otherwise → Each bounds (find_or_else l branches otherwise)
    find_each l Empty otherwise x y = y
    find_each l (Node h a b) otherwise x y = of_other bounds (Find l) (Node h a b) otherwise refl refl x y

    both_open : (q k : ℕ) (u n : ℕ) (x y cells m body more : Tree) → IsTerm cells → IsTerm m → (ts : List Caller) → AllByRecursion (λ (s : Caller). (s.bound == n) ≡ true → T.opens c.number q s.number k ≡ true) ts → AllByRecursion (λ s. AreOpen q (suc k) s more) ts
        → AllByRecursion (λ s. AreOpen q k s (Node Cons (Node Branch (Node (Binder u n) x y) (Node Cons cells (Node Cons m body))) more)) ts
    both_open q k u n x y cells m body more e f [] o w = tt
    both_open q k u n x y cells m body more e f (s ∷ ts) o w = ((o.0, e, f, w.0), both_open q k u n x y cells m body more e f ts o.1 w.1)

    end_open : (q k : ℕ) (ts : List Caller) → AllByRecursion (λ s. AreOpen q k s Empty) ts
    end_open q k [] = tt
    end_open q k (s ∷ ts) = (tt, end_open q k ts)

    all_open : (q k r : ℕ) (t : Tree) → AreRightBranches T ss c.number q k r t → AllByRecursion (λ s. AreOpen q k s t) ss
    unfolding IsRightText
    all_open q k r (Node Cons (Node Branch (Node (Binder u n) x y) (Node Cons cells (Node Cons m body))) more) e = both_open q k u n x y cells m body more e.1 e.2 ss e.0 (all_open q (suc k) _ more e.4)
    all_open q k r Empty e = end_open q k ss
    all_open q k r t e = absurd e

    mutual
      unfolding inlined_body IsRightText IsTypedBy

      body_each : (q : ℕ) (t : Tree) → IsRightText T ss c.number q t → IsTypedBy (types.at_site c.number) t → (Σ : Scope) → HasTerms Σ → Each bounds (inlined_body d ss c Σ q t follows)
      body_each q (Node (New z U) a b) e y Σ v =
          of_node bounds (New (d.variable c.number z) U) Empty _ refl (holds.drawn bounds c.number z U e.0 y.0) (none bounds) (body_each (second_place q (New z U) a) b e.1 y.2 ((z, Own) ∷ Σ) (tt, v))
      body_each q (Node (Let z U) a b) e y Σ v =
          of_node bounds (Let (d.variable c.number z) U) (in_game d c Σ a) _ refl (holds.drawn_assigned bounds c.number z U (in_game d c Σ a) e.0) (of_term bounds (in_game d c Σ a) (in_game_term d c key Σ v a e.1))
          (body_each (second_place q (Let z U) a) b e.2 y.1 ((z, Own) ∷ Σ) (tt, v))
      body_each q (Node If a (Node Cons b (Node Cons f g))) e y Σ v =
          let r : ℕ = second_place q If a in
          of_other bounds If (in_game d c Σ a) _ refl refl (of_term bounds (in_game d c Σ a) (in_game_term d c key Σ v a e.0))
          (of_other bounds Cons _ _ refl refl (body_each (first_place r Cons) b e.1 y.1.0 Σ v)
          (of_other bounds Cons _ Empty refl refl (body_each (first_place (second_place r Cons b) Cons) f e.2 y.1.1.0 Σ v) (none bounds)))
      body_each q (Node (Find l) a b) e y Σ v =
          find_each (d.label c.number q) (expanded d c Σ (d.index c.number q) (λ j Τ. inlined_branch d ss c Τ (first_place q (Find l)) a follows j) ss a) _
          (sites_each q (λ j Τ. inlined_branch d ss c Τ (first_place q (Find l)) a follows j) (λ k Τ w. arms_each q 0 (first_place q (Find l)) a e.0 y.0 k Τ w) Σ v ss fine a (all_open q 0 (first_place q (Find l)) a e.0))
          (body_each (second_place q (Find l) a) b e.1 y.1 Σ v)
      body_each q (Node If a t) e y Σ v = absurd (no_if a t e)
      body_each q t e y Σ v = rest (in_game d c Σ t) (in_game_term d c key Σ v t e)

      arms_each : (q k r : ℕ) (t : Tree) → AreRightBranches T ss c.number q k r t → IsTypedBy (types.at_site c.number) t → (j : ℕ) (Σ : Scope) → HasTerms Σ → Each bounds (inlined_branch d ss c Σ r t follows j)
      arms_each q k r (Node Cons (Node Branch (Node (Binder u n) x z) (Node Cons cells (Node Cons m body))) more) e y zero Σ v = body_each (body_place r Cons Branch (Node (Binder u n) x z) Cons cells Cons m) body e.3 y.0.1.1.1 Σ v
      arms_each q k r (Node Cons (Node Branch (Node (Binder u n) x z) (Node Cons cells (Node Cons m body))) more) e y (suc j) Σ v =
          arms_each q (suc k) (second_place r Cons (Node Branch (Node (Binder u n) x z) (Node Cons cells (Node Cons m body)))) more e.4 y.1 j Σ v
      arms_each q k r Empty e y j Σ v = none bounds
      arms_each q k r t e y j Σ v = absurd e

    call_each : (body : Tree) → IsRightText T ss c.number 0 body → IsTypedBy (types.at_site c.number) body → (xs : List (ℕ × ℕ)) → AllByRecursion (λ (x : ℕ × ℕ). T.has c.number x.0 ≡ true) xs → (ms : Tree) → IsTerm ms → (Σ : Scope) → HasTerms Σ
        → Each bounds (inlined_call d ss c Σ xs ms body follows)
    unfolding inlined_call
    call_each body e y [] f ms z Σ v = body_each 0 body e y Σ v
    call_each body e y (x ∷ xs) f Empty z Σ v = body_each 0 body e y Σ v
    call_each body e y (x ∷ xs) f (Node h m more) z Σ v =
        let p = term_parts h m more z in
        of_node bounds (Let (d.variable c.number x.0) x.1) m _ refl (holds.drawn_assigned bounds c.number x.0 x.1 m f.0) (of_term bounds m p.1) (call_each body e y xs f.1 more p.2 ((x.0, Own) ∷ Σ) (tt, v))

  -- the whole game

  callers_text : (cs : List Calling) → AllByRecursion (IsCallText T types) cs → AllByRecursion IsCallerText (callers_of cs)
  callers_text [] f = tt
  callers_text (c ∷ cs) f = ((f.0.key, f.0.indices), callers_text cs f.1)

  numbered_text : (l : ℕ) (cs : List Calling) (c : Calling) → AllByRecursion (IsCallText T types) cs → numbered l cs ≡ Some c → IsCallText T types c
  numbered_text l [] c f e = absurd (cc)
  numbered_text l (x ∷ cs) c f e = go (x.caller.number == l) e (numbered_text l cs c f.1)
    where
      go : (b : Bool) → cond b (Some x) (numbered l cs) ≡ Some c → (numbered l cs ≡ Some c → IsCallText T types c) → IsCallText T types c
      go true e k = subst (IsCallText T types) (let z : x ≡ c = cc in z) f.0
      go false e k = k e

  module _ (calls : AllByRecursion (IsCallText T types) T.calls.callings) where
    in_place : (bounds : List ℕ) (l : ℕ) (o : Option Calling) → numbered l T.calls.callings ≡ o → (ms : Tree) → IsTerm ms → (follows : Tree → Tree) → ((m : Tree) → IsTerm m → Each bounds (follows m)) → Each bounds (call_in_game T.calls o ms follows)
    in_place bounds l None e ms z follows rest = rest (lone No) (lone_term No refl)
    in_place bounds l (Some c) e ms z follows rest =
        let f = numbered_text l T.calls.callings c calls e in
        call_each bounds (callers_of T.calls.callings) (callers_text T.calls.callings calls) c.caller f.key follows rest c.function.body f.body f.typed c.function.arguments f.arguments ms z ((T.calls.group.key.0, TheKey) ∷ []) (tt, tt)

    pub next_each : (t : Tree) (rs : Results) (bounds : List ℕ) → AreResults rs → IsContextText T types.game t → EachNode T.g Q bounds t → Each bounds (next_in T.calls rs t)
    unfolding EachNode IsContextText next_in
    next_each Empty rs bounds r e q = tt
    next_each (Node (Key x) a b) rs bounds r e q = of_node bounds (New d.key T.calls.group.key.1) Empty _ refl (holds.key bounds x a q.0) (none bounds) (next_each b [] bounds tt e.2 q.2)
    next_each (Node (Call x l) a b) rs bounds r e q =
        in_place bounds l (numbered l T.calls.callings) refl (second a) e.2 (λ m. next_in T.calls ((x, m) ∷ rs) b) (λ m k. next_each b ((x, m) ∷ rs) bounds (k, r) e.3 q.2)
    next_each (Node (New x U) a b) rs bounds r e q = (holds.chosen bounds x U (next_in T.calls [] a) e.0 e.1, next_each a [] bounds tt e.2 q.1, next_each b [] bounds tt e.3 q.2)
    next_each (Node (Let x U) a b) rs bounds r e q = (holds.assigned bounds x U (with_results rs a) e.0, of_term bounds (with_results rs a) (results_term rs r a e.1), next_each b [] bounds tt e.2 q.2)
    next_each (Node If a b) rs bounds r e q = (holds.other bounds If (with_results rs a) refl, of_term bounds (with_results rs a) (results_term rs r a e.0), next_each b [] bounds tt e.1 q.2)
    next_each (Node (Event v) a b) rs bounds r e q = (holds.other bounds (Event v) (with_results rs a) refl, of_term bounds (with_results rs a) (results_term rs r a e.0), next_each b [] bounds tt e.1 q.2)
    next_each (Node (Out v) a b) rs bounds r e q = (holds.other bounds (Out v) (with_results rs a) refl, of_term bounds (with_results rs a) (results_term rs r a e.0), next_each b [] bounds tt e.1 q.2)
    next_each (Node (In v) a b) rs bounds r e q = (holds.input bounds v a e.0, of_pattern bounds a e.0, next_each b [] bounds tt e.1 q.2)
    next_each (Node Branch a b) rs bounds r e q = (holds.other bounds Branch a refl, of_pattern bounds a e.0, next_each b [] bounds tt e.1 q.2)
    next_each (Node (Leaf x) a b) rs bounds r e q = (holds.other bounds (Leaf (game_name T.calls x)) a refl, of_term bounds a e.0, of_term bounds b e.1)
    next_each (Node (Read x) a b) rs bounds r e q = (holds.other bounds (Read (game_name T.calls x)) a refl, of_term bounds a e.0, of_term bounds b e.1)
    next_each (Node (Binder y U) a b) rs bounds r e q = absurd e
    next_each (Node h a b) rs bounds r e q = (holds.other bounds h (next_in T.calls [] a) refl, next_each a [] (bounds_under T.g bounds h) tt e.0 q.1, next_each b [] (bounds_under T.g bounds h) tt e.1 q.2)
