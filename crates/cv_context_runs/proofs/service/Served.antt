-- The game and its context are served alike.
use Rattle.std.proofs.Common.{◌≡◌, ℕ, zero, suc, ◌+◌, ◌<◌, Bool, true, false, cond, ◌||◌, ◌&&◌, not, ◌==◌, List, [], ◌∷◌, ◌++◌, flat_map, length, Option, Some, None, refl, sym, ap, ap₂, subst, ◌∙◌, eqb-true, arith}
use Rattle.std.proofs.lemmas.Bool.{both_ways, and_parts}
use Rattle.std.proofs.lemmas.Grind.{flat_map-append}
use Rattle.std.specs.List.{AllByRecursion, list_any}
use Rattle.cv_syntax_trees.specs.declared.head.Head.TheVariants.{Stop, Yield, Par, Repl, In, Out, Event, New, Let, If, Find, Branch, Cons, Key}
use Rattle.cv_syntax_trees.specs.Tree.{Tree, Empty, Node, first_place, second, second_place}
use Rattle.cv_meaning.specs.Interpretation.{Interpretation, Setting}
use Rattle.cv_meaning.specs.Memory.{Indices, Local, Memory, Store, put, tuple}
use Rattle.cv_meaning.specs.Terms.{is_one, value}
use Rattle.cv_meaning.specs.Candidates.{Candidate, below, candidates, chosen}
use Rattle.cv_meaning.specs.Inputs.{Input, inputs_of}
use Rattle.cv_meaning.specs.Serving.{Sent, Served, Visit, after_find, after_turn, serve, step, visits}
use Rattle.cv_meaning.specs.Tapes.{Find_at, Key_at, New_at, Tape}
use Rattle.cv_meaning_laws.proofs.Sides.{candidates_same, value_same, values_same}
use Rattle.cv_meaning_runs.specs.Simulation.{AreServedAlike, InOrder}
use Rattle.cv_meaning_runs.proofs.Simulation.{in_order_append}
use Rattle.cv_scope_rules.specs.Context.{nothing_known}
use Rattle.cv_scope_rules.specs.Phrases.{Arm, Binders, Body, Branches, Else, Indices as Names, Inputs, Message, Nil, Pattern, Term, Terms, Then, is_phrase}
use Rattle.cv_scope_rules.specs.declared.position.Position.TheVariants as position
use Rattle.cv_scope_runs.specs.Reads.{TermAssigned, VisitReadsAssigned}
use Rattle.cv_scope_runs.proofs.Contexts.{Matches, push_matches}
use Rattle.cv_scene.specs.Instances.{is_read_of}
use Rattle.cv_scene.specs.Sites.{Site, sites_in}
use Rattle.cv_syntax_trees.specs.sites.Sites.{first_of}
use Rattle.cv_scene.specs.Sights.{variable_of}
use Rattle.cv_scene.specs.Contexts.{after_calls, in_context as tree_in_context, is_coin_variable}
use Rattle.cv_scene.specs.Reductions.{Reduction, in_context, in_game, is_answer, is_coin, is_plain, matching, sites}
use Rattle.cv_scene.specs.Cells.{at_left, coin_by, coin_from, made_by}
use Rattle.cv_scene.specs.Apt.{AreBindersPlain, AreTermsApt, IsApt, IsAptGame, inside}
use Rattle.cv_context_runs.proofs.service.Kept.{Kept, KeptStores, put_bound, put_coin, put_key, put_plain}
use Rattle.cv_context_runs.proofs.service.Terms.{AreAnswered, message_sites, message_values, term_sites, term_value, terms_sites, terms_value}
use Rattle.cv_context_runs.proofs.service.Calls.{calls_served}
use Rattle.cv_match_laws.proofs.values.Numbers.{context}
use Rattle.cv_context_runs.proofs.service.Finds.{arm, arm_of, body_number, branch_in, candidates_in, empty_in, guarded_of, guards_of, nil_in, node_in, pattern_in}

-- a plain variable has its own cell

or_false : (a b : Bool) → a || b ≡ false → (a ≡ false) × (b ≡ false)
or_false true b e = absurd (both_ways _ e refl)
or_false false b e = (refl, e)

no_coin_by : (n : ℕ) (zs : List (ℕ × ℕ)) (ms : List Tree) (y : ℕ) → list_any (λ m. is_read_of y (variable_of m)) ms ≡ false → coin_by n zs ms y ≡ None
no_coin_by n [] ms y e = refl
no_coin_by n (z ∷ zs) [] y e = refl
no_coin_by n (z ∷ zs) (m ∷ ms) y e =
    let p = or_false (is_read_of y (variable_of m)) (list_any (λ m. is_read_of y (variable_of m)) ms) e in
    ap (λ b. cond b (Some (record { name = z.0; site = n })) (coin_by n zs ms y)) p.0 ∙ no_coin_by n zs ms y p.1

no_coin : (n : ℕ) (ss : List Site) (y : ℕ) → is_coin_variable ss y ≡ false → coin_from n ss y ≡ None
no_coin n [] y e = refl
no_coin n (s ∷ ss) y e =
    let p = or_false (list_any (λ m. is_read_of y (variable_of m)) s.call.instance.coins) (is_coin_variable ss y) e in
    ap (λ o. first_of o (coin_from (suc n) ss y)) (no_coin_by n s.call.function.coins s.call.instance.coins y p.0) ∙ no_coin (suc n) ss y p.1

pub own_cell : (r : Reduction) (y : ℕ) (w : List ℕ) → (y == r.key) ≡ false → is_coin r y ≡ false → at_left r (New_at y w) ≡ New_at y w
own_cell r y w e f = ap (λ b. cond b (Key_at w) (made_by r y w (coin_from 0 (sites r) y))) e ∙ ap (made_by r y w) (no_coin 0 (sites r) y f)

-- lists of inputs

in_order_below : {B C : Type 0} (R : B → C → Type 0) (f : ℕ → List B) (h : ℕ → List C) (n : ℕ) → ((v : ℕ) → v < n → InOrder R (f v) (h v)) → InOrder R (flat_map f (below n)) (flat_map h (below n))
in_order_below R f h zero k = tt
in_order_below R f h (suc n) k =
    subst (λ xs. InOrder R xs (flat_map h (below n ++ n ∷ []))) (sym (flat_map-append f (below n) (n ∷ [])))
    (subst (λ ys. InOrder R (flat_map f (below n) ++ (f n ++ [])) ys) (sym (flat_map-append h (below n) (n ∷ [])))
    (in_order_append R (flat_map f (below n)) (f n ++ []) (flat_map h (below n)) (h n ++ []) (in_order_below R f h n (λ v l. k v (omega arith))) (in_order_append R (f n) [] (h n) [] (k n (omega arith)) tt)))

message_of : (c : ℕ) (a b : Tree) → is_phrase Body (Node (Out c) a b) ≡ true → is_phrase Message a ≡ true
unfolding is_phrase
message_of c a b e = (and_parts (is_phrase Message a) (is_phrase Inputs b) e).0

module _ (r : Reduction) (fine : IsAptGame r) (i : Interpretation) (t : Tape) where
  abbrev g : Setting
  g = in_game r i

  abbrev h : Setting
  h = in_context r i

  abbrev V : ℕ → Bool
  V x = not (is_plain r x)

  -- the tape of the game
  abbrev pub u : Tape
  u c = t (at_left r c)

  pub data Like : Input → Input → Type 0 where
    copy : (j : ℕ) (rs : List (ℕ × ℕ)) {c p q : ℕ} {a b : Tree} {at : Indices} → Matches g V rs at → AreBindersPlain r (second a) → is_phrase Body b ≡ true → IsApt r Body rs j b
        → Like (record { channel = c; indices = at; tree = Node (In c) a b; place = p }) (record { channel = c; indices = at; tree = Node (In c) a (context r position.Anywhere rs j b); place = q })

  -- what is opened

  pub opened : (b : Tree) (rs : List (ℕ × ℕ)) (j p q : ℕ) (at : Indices) → Matches g V rs at → is_phrase Inputs b ≡ true → IsApt r Inputs rs j b → InOrder Like (inputs_of g b p at) (inputs_of h (context r position.Anywhere rs j b) q at)
  unfolding inputs_of is_phrase IsApt
  opened Empty rs j p q at k e s = absurd (both_ways false refl e)
  opened (Node Stop a b) rs j p q at k e s = subst (λ z. InOrder Like [] (inputs_of h z q at)) (sym (node_in r fine position.Anywhere rs j Stop a b refl)) tt
  opened (Node Par a b) rs j p q at k e s =
      let w = and_parts (is_phrase Inputs a) _ e in
      subst (λ z. InOrder Like (inputs_of g a (first_place p Par) at ++ inputs_of g b (second_place p Par a) at) (inputs_of h z q at)) (sym (node_in r fine position.Anywhere rs j Par a b refl))
      (in_order_append Like _ _ _ _ (opened a rs j _ _ at k w.0 s.1.0) (opened b rs (j + length (inside r position.Anywhere rs Par a)) _ _ at k w.1 s.1.1))
  opened (Node (Repl x n) a b) rs j p q at k e s =
      let w = and_parts (is_phrase Nil a) _ e in
      subst (λ z. InOrder Like (inputs_of g (Node (Repl x n) a b) p at) (inputs_of h z q at)) (sym (node_in r fine position.Anywhere rs j (Repl x n) a b refl))
      (in_order_below Like _ _ (g.interpretation.parameter_value n)
      (λ v l. opened b (rs ++ (x, n) ∷ []) (j + length (inside r position.Anywhere rs (Repl x n) a)) _ _ (at ++ (x, v) ∷ [])
      (push_matches g V (record nothing_known { replications = rs }) at x n v (record { not_above = s.0.above; no_constant = s.0.constant; no_variable = ap not s.0.plain }) l k) w.1 s.1.1))
  opened (Node (In c) a b) rs j p q at k e s =
      let w = and_parts (is_phrase Pattern a) _ e in
      subst (λ z. InOrder Like (inputs_of g (Node (In c) a b) p at) (inputs_of h z q at))
      (sym (node_in r fine position.Anywhere rs j (In c) a b refl ∙ ap (λ z. Node (In c) z (context r position.Anywhere rs (j + length (inside r position.Anywhere rs (In c) a)) b)) (pattern_in r fine rs j a w.0)))
      (copy (j + length (inside r position.Anywhere rs (In c) a)) rs k s.0 w.1 s.1.1, tt)
  opened (Node x a b) rs j p q at k e s = absurd (both_ways false refl e)

  abbrev Alike : Served → Served → Type 0
  Alike = AreServedAlike (Kept r t) Like

  abbrev here : Indices → Memory → Local
  here at x = record { indices = at; memory = x }

  abbrev Expected : List Visit → Type 0
  Expected = AllByRecursion (VisitReadsAssigned g)

  kept_with : (x y : Memory) (m n : Store) → KeptStores r t m n → x.events ≡ y.events → Kept r t (record x { store = m }) (record y { store = n })
  kept_with x y m n k e = record { stores = k; events = e }

  -- a construct with terms

  statement : (P : Served → Type 0) (a : Tree) (rs : List (ℕ × ℕ)) (j : ℕ) (at : Indices) → Matches g V rs at → (x y : Memory) → Kept r t x y → AreTermsApt r rs j a
      → AllByRecursion (λ (s : Site). TermAssigned g at x.store s.term) (sites_in (matching r) position.Anywhere rs 0 a) → (T : Tree)
      → ((z : Memory) → Kept r t x z → AreAnswered r g at x.store z.store j (sites_in (matching r) position.Anywhere rs 0 a) → (q l : ℕ) (ws : List ℕ) → P (serve h t T q l ws (here at z)))
      → (q l : ℕ) (ws : List ℕ) → P (serve h t (after_calls r.answer j (sites_in (matching r) position.Anywhere rs 0 a) T) q l ws (here at y))
  statement P a rs j at k x y kept s d T go q l ws =
      calls_served r fine i t rs at k x.store P T (sites_in (matching r) position.Anywhere rs 0 a) j y kept.stores s.sites d
      (λ z kz ev later ans. go z (record { stores = kz; events = kept.events ∙ sym ev }) ans) q l ws

  nothing_served : (b c : Tree) (p q k : ℕ) (vs : List ℕ) (at : Indices) (x y : Memory) → is_phrase Nil b ≡ true → c ≡ b → Kept r t x y → Alike (serve g u b p k vs (here at x)) (serve h t c q k vs (here at y))
  unfolding serve is_phrase
  nothing_served Empty c p q k vs at x y e f z = subst (λ o. Alike (serve g u Empty p k vs (here at x)) (serve h t o q k vs (here at y))) (sym f) (record { reply = refl; memory = z; opened = tt })
  nothing_served (Node o a b) c p q k vs at x y e f z = absurd (both_ways false refl e)

  -- what is drawn: the key, a coin or a variable of the context
  drawn : (S : Served) (v T : ℕ) (A B : Tree) (q l : ℕ) (ws : List ℕ) (at : Indices) (x y : Memory) → Kept r t x y → is_answer r v ≡ false
      → ((n : Store) → KeptStores r t (put x.store v (tuple at) (t (at_left r (New_at v (tuple at))))) n → (q l : ℕ) (ws : List ℕ) → Alike S (serve h t B q l ws (here at (record y { store = n }))))
      → Alike S (serve h t (tree_in_context (matching r) (is_coin r) (New v T) A B) q l ws (here at y))
  unfolding serve step
  drawn S v T A B q l ws at x y kept e go = by (v == r.key) refl (is_coin r v) refl
    where
      w : List ℕ
      w = tuple at

      by : (b : Bool) → (v == r.key) ≡ b → (c : Bool) → is_coin r v ≡ c → Alike S (serve h t (cond b (Node (Key v) Empty B) (cond c B (Node (New v T) A B))) q l ws (here at y))
      by true f c d =
          go (put y.store v w 0) (subst (λ z. KeptStores r t (put x.store z w (t (at_left r (New_at z w)))) (put y.store z w 0)) (sym (eqb-true v r.key f)) (put_key r t x.store y.store w fine.key_coin kept.stores)) _ 0 []
      by false f true d = go y.store (put_coin r t x.store y.store v w fine.key_coin d kept.stores) q l ws
      by false f false d =
          go (put y.store v w (t (New_at v w)))
          (put_plain r t x.store y.store v w (t (at_left r (New_at v w))) (t (New_at v w)) (λ i. not (f i) && (not (d i) && not (e i))) (ap t (own_cell r v w f d)) kept.stores) _ 0 []

  find_served : (o : Option Candidate) (sa sb sc sd : ℕ → List ℕ → Local → Served) (va vb : ℕ → List ℕ → Local → List Visit) (at : Indices) (x y : Memory)
      → ((k : ℕ) (vs : List ℕ) → Expected (va k vs (here at x)) → Alike (sa k vs (here at x)) (sc k vs (here at y)))
      → (Expected (vb 0 [] (here at x)) → Alike (sb 0 [] (here at x)) (sd 0 [] (here at y)))
      → Expected (after_turn (λ r. []) va vb (after_find (here at x) o))
      → Alike (after_turn (λ r. r) sa sb (after_find (here at x) o)) (after_turn (λ r. r) sc sd (after_find (here at y) o))
  find_served None sa sb sc sd va vb at x y f s d = s d
  find_served (Some c) sa sb sc sd va vb at x y f s d = f c.branch c.tuple d

  mutual
    unfolding serve step visits is_phrase IsApt

    pub body_served : (b : Tree) (rs : List (ℕ × ℕ)) (j p q k l : ℕ) (vs ws : List ℕ) (at : Indices) (x y : Memory) → Matches g V rs at → is_phrase Body b ≡ true → IsApt r Body rs j b → Kept r t x y
        → Expected (visits g u b p k vs (here at x)) → Alike (serve g u b p k vs (here at x)) (serve h t (context r position.Anywhere rs j b) q l ws (here at y))
    body_served Empty rs j p q k l vs ws at x y f e s z d = absurd (both_ways false refl e)
    body_served (Node Yield a b) rs j p q k l vs ws at x y f e s z d =
        subst (λ c. Alike (serve g u (Node Yield a b) p k vs (here at x)) (serve h t c q l ws (here at y))) (sym (node_in r fine position.Anywhere rs j Yield a b refl))
        (record { reply = refl; memory = z; opened = tt })
    body_served (Node (New v T) a b) rs j p q k l vs ws at x y f e s z d =
        let w = and_parts (is_phrase Nil a) _ e in
        subst (λ c. Alike (serve g u (Node (New v T) a b) p k vs (here at x)) (serve h t c q l ws (here at y))) (sym (node_in r fine position.Anywhere rs j (New v T) a b refl))
        (drawn _ v T (context r position.Anywhere rs j a) _ q l ws at x y z s.0
        (λ n kz q l ws. body_served b rs (j + length (inside r position.Anywhere rs (New v T) a)) _ q 0 l [] ws at _ (record y { store = n }) f w.1 s.1.1 (record { stores = kz; events = z.events }) d.1))
    body_served (Node (Let v T) a b) rs j p q k l vs ws at x y f e s z d =
        let w = and_parts (is_phrase Term a) _ e in
        let A : Tree = context r position.Anywhere rs j a in
        subst (λ c. Alike (serve g u (Node (Let v T) a b) p k vs (here at x)) (serve h t c q l ws (here at y))) (sym (node_in r fine position.Anywhere rs j (Let v T) a b refl))
        (statement (Alike (serve g u (Node (Let v T) a b) p k vs (here at x))) a rs j at f x y z s.0.1 (term_sites r fine g refl rs at f x.store x.store a 0 w.0 d.0) _
        (λ n kn ans q l ws.
        body_served b rs (j + length (inside r position.Anywhere rs (Let v T) a)) _ _ 0 0 [] [] at _ (record n { store = put n.store v (tuple at) (value h at n.store A) }) f w.1 s.1.1
        (record {
          stores = put_plain r t x.store n.store v (tuple at) (value g at x.store a) (value h at n.store A) s.0.0 (sym (value_same g h.side at n.store A ∙ term_value r fine g refl rs at f x.store n.store kn.stores.plain a 0 j w.0 s.0.1.outside ans)) kn.stores;
          events = kn.events;
        })
        d.1) q l ws)
    body_served (Node (Event v) a b) rs j p q k l vs ws at x y f e s z d =
        let w = and_parts (is_phrase Terms a) _ e in
        let A : Tree = context r position.Anywhere rs j a in
        subst (λ c. Alike (serve g u (Node (Event v) a b) p k vs (here at x)) (serve h t c q l ws (here at y))) (sym (node_in r fine position.Anywhere rs j (Event v) a b refl))
        (statement (Alike (serve g u (Node (Event v) a b) p k vs (here at x))) a rs j at f x y z s.0 (terms_sites r fine g refl rs at f x.store x.store a 0 w.0 d.0) _
        (λ n kn ans q l ws.
        body_served b rs (j + length (inside r position.Anywhere rs (Event v) a)) _ _ 0 0 [] [] at _ _ f w.1 s.1.1
        (record {
          stores = kn.stores;
          events = ap₂ (λ es us. es ++ (record { event = v; values = us }) ∷ []) kn.events (sym (values_same g h.side at n.store A ∙ terms_value r fine g refl rs at f x.store n.store kn.stores.plain a 0 j w.0 s.0.outside ans));
        })
        d.1) q l ws)
    body_served (Node If a b) rs j p q k l vs ws at x y f e s z d =
        let w = and_parts (is_phrase Term a) _ e in
        let A : Tree = context r position.Anywhere rs j a in
        let N : ℕ = j + length (inside r position.Anywhere rs If a) in
        subst (λ c. Alike (serve g u (Node If a b) p k vs (here at x)) (serve h t c q l ws (here at y))) (sym (node_in r fine position.Anywhere rs j If a b refl))
        (statement (Alike (serve g u (Node If a b) p k vs (here at x))) a rs j at f x y z s.0 (term_sites r fine g refl rs at f x.store x.store a 0 w.0 d.0) _
        (λ n kn ans q l ws.
        subst (λ (c : Bool). Alike (serve g u b (second_place p If a) (cond (is_one (value g at x.store a)) 0 1) [] (here at x)) (serve h t (context r position.Bodies rs N b) (second_place q If A) (cond c 0 1) [] (here at n)))
        (sym (ap is_one (value_same g h.side at n.store A ∙ term_value r fine g refl rs at f x.store n.store kn.stores.plain a 0 j w.0 s.0.outside ans)))
        (thens_served b rs N (second_place p If a) (second_place q If A) (cond (is_one (value g at x.store a)) 0 1) [] at x n f w.1 s.1.1 kn d.1)) q l ws)
    body_served (Node (Find n) a b) rs j p q k l vs ws at x y f e s z d =
        let w = and_parts (is_phrase Branches a) _ e in
        let A : Tree = context r position.Branches rs j a in
        let N : ℕ = j + length (inside r position.Anywhere rs (Find n) a) in
        let B : Tree = context r position.Anywhere rs N b in
        subst (λ c. Alike (serve g u (Node (Find n) a b) p k vs (here at x)) (serve h t c q l ws (here at y))) (sym (node_in r fine position.Anywhere rs j (Find n) a b refl))
        (subst (λ cs. Alike (serve g u (Node (Find n) a b) p k vs (here at x)) (after_turn (λ r. r) (serve h t A (first_place q (Find n))) (serve h t B (second_place q (Find n) A)) (after_find (here at y) (chosen cs (t (Find_at n (tuple at)))))))
        (candidates_in r fine g at t x.store y.store z.stores a rs j w.0 s.1.0 ∙ sym (candidates_same g h.side at y.store A))
        (find_served (chosen (candidates g at x.store a) (t (Find_at n (tuple at)))) (serve g u a (first_place p (Find n))) (serve g u b (second_place p (Find n) a)) (serve h t A (first_place q (Find n))) (serve h t B (second_place q (Find n) A))
        (visits g u a (first_place p (Find n))) (visits g u b (second_place p (Find n) a)) at x y
        (λ k vs d. branches_served a rs j _ _ k vs at x y f w.0 s.1.0 z d)
        (λ d. body_served b rs N _ _ 0 0 [] [] at x y f w.1 s.1.1 z d) d.1))
    body_served (Node (Out c) (Node Cons v ms) b) rs j p q k l vs ws at x y f e s z d =
        let a : Tree = Node Cons v ms in
        let w = and_parts (is_phrase Message a) _ e in
        let m = and_parts (is_phrase Names v) _ w.0 in
        let A : Tree = context r position.Anywhere rs j a in
        let N : ℕ = j + length (inside r position.Anywhere rs (Out c) a) in
        subst (λ o. Alike (serve g u (Node (Out c) a b) p k vs (here at x)) (serve h t o q l ws (here at y))) (sym (node_in r fine position.Anywhere rs j (Out c) a b refl))
        (statement (Alike (serve g u (Node (Out c) a b) p k vs (here at x))) a rs j at f x y z s.0 (message_sites r fine g refl rs at f x.store x.store v ms m.0 m.1 d.0) _
        (λ n kn ans q l ws.
        record {
          reply = ap (Sent c (tuple at)) (sym (values_same g h.side at n.store (second A) ∙ message_values r fine g refl rs at f x.store n.store kn.stores.plain v ms j m.1 s.0.outside ans));
          memory = kn;
          opened = opened b rs N _ _ at f w.1 s.1.1;
        }) q l ws)
    body_served (Node (Out c) a b) rs j p q k l vs ws at x y f e s z d = absurd (both_ways false refl (message_of c a b e))
    body_served (Node o a b) rs j p q k l vs ws at x y f e s z d = absurd (both_ways false refl e)

    thens_served : (b : Tree) (rs : List (ℕ × ℕ)) (j p q k : ℕ) (vs : List ℕ) (at : Indices) (x y : Memory) → Matches g V rs at → is_phrase Then b ≡ true → IsApt r Then rs j b → Kept r t x y
        → Expected (visits g u b p k vs (here at x)) → Alike (serve g u b p k vs (here at x)) (serve h t (context r position.Bodies rs j b) q k vs (here at y))
    thens_served Empty rs j p q k vs at x y f e s z d = absurd (both_ways false refl e)
    thens_served (Node Cons a b) rs j p q zero vs at x y f e s z d =
        let w = and_parts (is_phrase Body a) _ e in
        subst (λ c. Alike (serve g u a (first_place p Cons) 0 vs (here at x)) (serve h t c q 0 vs (here at y))) (sym (node_in r fine position.Bodies rs j Cons a b refl))
        (body_served a rs j _ _ 0 0 vs vs at x y f w.0 s.1.0 z d.1)
    thens_served (Node Cons a b) rs j p q (suc k) vs at x y f e s z d =
        let w = and_parts (is_phrase Body a) _ e in
        subst (λ c. Alike (serve g u b (second_place p Cons a) k vs (here at x)) (serve h t c q (suc k) vs (here at y))) (sym (node_in r fine position.Bodies rs j Cons a b refl))
        (else_served b rs (j + length (inside r position.Bodies rs Cons a)) _ _ k vs at x y f w.1 s.1.1 z d.1)
    thens_served (Node o a b) rs j p q k vs at x y f e s z d = absurd (both_ways false refl e)

    else_served : (b : Tree) (rs : List (ℕ × ℕ)) (j p q k : ℕ) (vs : List ℕ) (at : Indices) (x y : Memory) → Matches g V rs at → is_phrase Else b ≡ true → IsApt r Else rs j b → Kept r t x y
        → Expected (visits g u b p k vs (here at x)) → Alike (serve g u b p k vs (here at x)) (serve h t (context r position.ElseBody rs j b) q k vs (here at y))
    else_served Empty rs j p q k vs at x y f e s z d = absurd (both_ways false refl e)
    else_served (Node Cons a b) rs j p q zero vs at x y f e s z d =
        let w = and_parts (is_phrase Body a) _ e in
        subst (λ c. Alike (serve g u a (first_place p Cons) 0 vs (here at x)) (serve h t c q 0 vs (here at y))) (sym (node_in r fine position.ElseBody rs j Cons a b refl))
        (body_served a rs j _ _ 0 0 vs vs at x y f w.0 s.1.0 z d.1)
    else_served (Node Cons a b) rs j p q (suc k) vs at x y f e s z d =
        let w = and_parts (is_phrase Body a) _ e in
        subst (λ c. Alike (serve g u b (second_place p Cons a) k vs (here at x)) (serve h t c q (suc k) vs (here at y))) (sym (node_in r fine position.ElseBody rs j Cons a b refl))
        (nothing_served b (context r position.Anywhere rs (j + length (inside r position.ElseBody rs Cons a)) b) _ _ k vs at x y w.1 (nil_in r fine rs (j + length (inside r position.ElseBody rs Cons a)) b w.1) z)
    else_served (Node o a b) rs j p q k vs at x y f e s z d = absurd (both_ways false refl e)

    branches_served : (a : Tree) (rs : List (ℕ × ℕ)) (j p q k : ℕ) (vs : List ℕ) (at : Indices) (x y : Memory) → Matches g V rs at → is_phrase Branches a ≡ true → IsApt r Branches rs j a → Kept r t x y
        → Expected (visits g u a p k vs (here at x)) → Alike (serve g u a p k vs (here at x)) (serve h t (context r position.Branches rs j a) q k vs (here at y))
    branches_served Empty rs j p q k vs at x y f e s z d =
        subst (λ c. Alike (serve g u Empty p k vs (here at x)) (serve h t c q k vs (here at y))) (sym (empty_in r fine position.Branches rs j)) (record { reply = refl; memory = z; opened = tt })
    branches_served (Node Cons (Node Branch us (Node Cons cells (Node Cons c b))) more) rs j p q zero vs at x y f e s z d =
        let v = and_parts (is_phrase Arm (arm r fine us cells c b)) _ e in
        let w = and_parts (is_phrase Binders us) _ v.0 in
        subst (λ o. Alike (serve g u (Node Cons (arm r fine us cells c b) more) p 0 vs (here at x)) (serve h t o q 0 vs (here at y))) (sym (branch_in r fine rs j us cells c b more w.0))
        (body_served b rs (body_number r fine rs j us) _ _ 0 0 [] [] at _ _ f (and_parts (is_phrase Term c) (is_phrase Body b) (guarded_of us cells (Node Cons c b) more e)).1 s.1.0.1.1.1.1.1.1
        (record { stores = put_bound r t x.store y.store (tuple at) us vs s.1.0.0 z.stores; events = z.events }) d.1.1.1.1)
    branches_served (Node Cons (Node Branch us (Node Cons cells (Node Cons c b))) more) rs j p q (suc k) vs at x y f e s z d =
        let v = and_parts (is_phrase Arm (arm r fine us cells c b)) _ e in
        let w = and_parts (is_phrase Binders us) _ v.0 in
        subst (λ o. Alike (serve g u more (second_place p Cons (arm r fine us cells c b)) k vs (here at x)) (serve h t o q (suc k) vs (here at y))) (sym (branch_in r fine rs j us cells c b more w.0))
        (branches_served more rs (j + length (inside r position.Branches rs Cons (arm r fine us cells c b))) _ _ k vs at x y f v.1 s.1.1 z d.1)
    branches_served (Node Cons (Node Branch us (Node Cons cells rest)) more) rs j p q k vs at x y f e s z d = absurd (both_ways false refl (guarded_of us cells rest more e))
    branches_served (Node Cons (Node Branch us rest) more) rs j p q k vs at x y f e s z d = absurd (both_ways false refl (guards_of us rest more e))
    branches_served (Node Cons a more) rs j p q k vs at x y f e s z d = absurd (both_ways false refl (arm_of a more e))
    branches_served (Node o a b) rs j p q k vs at x y f e s z d = absurd (both_ways false refl e)
