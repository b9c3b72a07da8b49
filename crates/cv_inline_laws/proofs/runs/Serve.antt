-- A service in a context with the right side, and in its next game.
use Rattle.std.proofs.Common.{◌≡◌, ℕ, zero, suc, Bool, true, false, cond, ◌&&◌, not, ◌==◌, is_some, eqb-true, eq-eqb, if◌then◌else◌, List, [], ◌∷◌, ◌++◌, flat_map, Option, Some, None, refl, sym, ap, ap₂, subst, ◌∙◌}
use Rattle.std.proofs.lemmas.Bool.{both_ways}
use Rattle.std.specs.List.{AllByRecursion}
use Rattle.cv_syntax_trees.specs.declared.head.Head.TheVariants.{Stop, Yield, Par, Repl, In, Out, Event, New, Let, If, Find, Branch, Cons, Key, Call}
use Rattle.cv_syntax_trees.specs.Tree.{Tree, Empty, Node, first, second, first_place, second_place}
use Rattle.cv_meaning.specs.Tapes.{Tape, New_at, Find_at, Key_at, same_tuple}
use Rattle.cv_meaning.specs.Side.{CallNumber, Arrays, OracleAnswer}
use Rattle.cv_meaning.specs.Interpretation.{Setting}
use Rattle.cv_meaning.specs.Memory.{Store, Happened, Indices, Local, tuple, put}
use Rattle.cv_meaning.specs.Terms.{is_one, value, values}
use Rattle.cv_meaning.specs.Binders.{bound_to}
use Rattle.cv_meaning.specs.Candidates.{Candidate, candidates, chosen, below}
use Rattle.cv_meaning.specs.Inputs.{inputs_of}
use Rattle.cv_meaning.specs.Serving.{Served, Sent, serve, step, visits, after_turn, after_find, key_tuple, oracle_call}
use Rattle.cv_meaning_laws.proofs.Sides.{value_same, values_same, candidates_same}
use Rattle.cv_meaning_laws.proofs.Counts.{same_tuple_exact, same_tuple_refl}
use Rattle.cv_meaning.specs.contexts.Frames.{same_number}
use Rattle.cv_meaning.specs.contexts.Sides.{side_from}
use Rattle.cv_meaning.specs.contexts.Bodies.{reply}
use Rattle.cv_meaning_runs.specs.Simulation.{InOrder, AreServedAlike}
use Rattle.cv_meaning_runs.proofs.Simulation.{in_order_append}
use Rattle.cv_meaning.specs.contexts.Inlined.{index_terms}
use Rattle.cv_meaning.specs.contexts.Roles.{Role, Plain, Replication, Gone, TheKeyName, Variable, Index, is_elsewhere, is_kept}
use Rattle.cv_inline.specs.bodies.Related.{MadeUnder, with_made}
use Rattle.cv_inline.proofs.bodies.Stages.{put_here}
use Rattle.cv_inline.specs.NextGame.{Results, call_in_game, with_results, next_in}
use Rattle.cv_inline_laws.specs.runs.Texts.{IsLaterIn, Text, oracles_in, AreRelatedIn, IsServedAs}
use Rattle.cv_inline_laws.specs.runs.Contexts.{Answers, IsNone, ResultStays, ResultsStay, context_setting, IsFineContext, AreFineBranchesIn, AreFineInputs, AreLikeTapes, IsCallVisit, IsExpected, AreRelatedMemories, AreLikeInputs, HaveAnswers}
use Rattle.cv_inline_laws.proofs.runs.CallCase.{call_in_place}
use Rattle.cv_inline_laws.proofs.runs.After.{other_put, put_related, bound_related, key_related}
use Rattle.cv_inline_laws.proofs.runs.TermsIn.{value_with, values_with, candidates_next}
use Rattle.cv_meaning_runs.proofs.Replacement.{in_order_flat}

kept_elsewhere : (b c : ℕ) → (b == c) ≡ false → (r : Role) → is_kept b r ≡ true → is_elsewhere c r ≡ true
kept_elsewhere b c d Plain e = refl
kept_elsewhere b c d TheKeyName e = refl
kept_elsewhere b c d Replication e = refl
kept_elsewhere b c d Gone e = refl
kept_elsewhere b c d (Index s q o j k) e = ap not (ap (λ z. z == c) (eqb-true s b e) ∙ d)
kept_elsewhere b c d (Variable s v) e = absurd (both_ways _ refl e)

-- a statement takes no turn from what stands before it
abbrev pub SameTurn : Answers → (k j : ℕ) → (vs ws : List ℕ) → Type 0
SameTurn [] k j vs ws = (k ≡ j) × (vs ≡ ws)
SameTurn (x ∷ xs) k j vs ws = Unit {0}

turn_of : (o : Answers) (k j : ℕ) (vs ws : List ℕ) → IsNone o → SameTurn o k j vs ws → (k ≡ j) × (vs ≡ ws)
turn_of [] k j vs ws e h = h
turn_of (x ∷ o) k j vs ws e h = absurd e

module _ (T : Text) (tapes : AreLikeTapes T) where
  abbrev g₁ : Setting
  g₁ = context_setting T

  abbrev t : Tape
  t = T.side_tape

  abbrev u : Tape
  u = T.game_tape

  abbrev local : Indices → Store → List Happened → Arrays → Local
  local at m es ar = record { indices = at; memory = record { store = m; events = es; arrays = ar } }

  abbrev Alike : Served → Served → Type 0
  Alike r s = AreServedAlike (AreRelatedMemories T) (AreLikeInputs T) r s

  pub inputs_next : (b : Tree) → AreFineInputs T b → (pl ql : ℕ) (at : Indices) → InOrder (AreLikeInputs T) (inputs_of g₁ b pl at) (inputs_of T.g (next_in T.calls [] b) ql at)
  unfolding inputs_of next_in IsFineContext
  inputs_next Empty f pl ql at = tt
  inputs_next (Node Stop a b) f pl ql at = tt
  inputs_next (Node Par a b) f pl ql at = in_order_append (AreLikeInputs T) _ _ _ _ (inputs_next a f.0 _ _ at) (inputs_next b f.1 _ _ at)
  inputs_next (Node (Repl i n) a b) f pl ql at = in_order_flat (AreLikeInputs T) _ _ (λ v. inputs_next b f _ _ (at ++ (i, v) ∷ [])) (below (T.g.interpretation.parameter_value n))
  inputs_next (Node (In c) a b) f pl ql at = (record { channel = refl; indices = refl; binders = refl; tree = refl; fine = f }, tt)
  inputs_next _ f pl ql at = absurd f

  -- the choice of a find is one
  picked_next : (a b : Tree) (pa qa pb qb : ℕ) (at : Indices) (m : Store) (es : List Happened) (ar br : Arrays) (n : Store)
      → ((j : ℕ) (ws : List ℕ) → AllByRecursion (IsExpected T) (visits g₁ t a pa j ws (local at m es ar)) → Alike (serve g₁ t a pa j ws (local at m es ar)) (serve T.g u (next_in T.calls [] a) qa j ws (local at n es br)))
      → ((j : ℕ) (ws : List ℕ) → AllByRecursion (IsExpected T) (visits g₁ t b pb j ws (local at m es ar)) → Alike (serve g₁ t b pb j ws (local at m es ar)) (serve T.g u (next_in T.calls [] b) qb j ws (local at n es br)))
      → (c : Option Candidate) → AllByRecursion (IsExpected T) (after_turn (λ r. []) (visits g₁ t a pa) (visits g₁ t b pb) (after_find (local at m es ar) c))
      → Alike (after_turn (λ r. r) (serve g₁ t a pa) (serve g₁ t b pb) (after_find (local at m es ar) c)) (after_turn (λ r. r) (serve T.g u (next_in T.calls [] a) qa) (serve T.g u (next_in T.calls [] b) qb) (after_find (local at n es br) c))
  picked_next a b pa qa pb qb at m es ar br n ia ib None e = ib 0 [] e
  picked_next a b pa qa pb qb at m es ar br n ia ib (Some c) e = ia c.branch c.tuple e

  -- a call's reply, as the context asks for it and as it is in place
  module _ (x l : ℕ) (a b : Tree) (rs : Results) (at : Indices) (es : List Happened) (m : Store) (ar br : Arrays) (n : Store) (made : MadeUnder) (rel : AreRelatedIn T made m ar n) (v : IsCallVisit T x l a (local at m es ar)) (ql k : ℕ) (vs : List ℕ) where
    abbrev asked : OracleAnswer
    asked = reply (oracles_in T) t ar (oracle_call g₁ (local at m es ar) l a)

    abbrev key : List ℕ
    key = key_tuple g₁ (local at m es ar) (first a)

    abbrev made' : MadeUnder
    made' = with_made made (record { tuple = tuple at; site = v.calling.caller.number }) key

    abbrev in_place : OracleAnswer
    in_place = reply (oracles_in T) t ar (record { key = key; number = record { tuple = tuple at; site = v.calling.caller.number }; arguments = values T.g at m (second a) })

    abbrev kont : Tree → Tree
    kont z = next_in T.calls ((x, z) ∷ rs) b

    pub sv : IsServedAs T v.calling.caller at made key es br m n kont in_place (serve T.g u (call_in_game T.calls (Some v.calling) (second a) kont) ql k vs (local at n es br))
    sv = call_in_place T v.calling.caller at made key es br m ar n kont rel v.expected v.calling.function (second a) v.fine ql k vs

    pub one_reply : in_place ≡ asked
    one_reply =
        ap₂ (λ s ws. reply (oracles_in T) t ar (record { key = key; number = record { tuple = tuple at; site = s }; arguments = ws })) v.number (sym (values_same T.g (side_from (oracles_in T)) at m (second a)))

    pub related_then : AreRelatedIn T made' (put m x (tuple at) asked.value) asked.arrays sv.store
    related_then =
        subst (λ (r : OracleAnswer). AreRelatedIn T made' (put m x (tuple at) r.value) r.arrays sv.store) one_reply
        (subst (λ y. AreRelatedIn T made' (put m y (tuple at) in_place.value) in_place.arrays sv.store) (ap T.answer v.number ∙ sym v.answer) sv.related)

    abbrev c : ℕ
    c = v.calling.caller.number

    -- a call that was made is another one
    another : (d : CallNumber) (k : List ℕ) → made d ≡ Some k → d.site ≡ c → same_tuple d.tuple (tuple at) ≡ true → ⊥
    another d k e q w =
        both_ways _ (ap is_some (ap₂ (λ s u. m (T.answer s) u) q (same_tuple_exact d.tuple (tuple at) w) ∙ v.expected.fresh)) (rel.answered d k e)

    still_made : (d : CallNumber) (k : List ℕ) → made d ≡ Some k → (j : List ℕ) × (made' d ≡ Some j)
    still_made d k e = go (same_number d (record { tuple = tuple at; site = c })) refl
      where
        go : (b : Bool) → same_number d (record { tuple = tuple at; site = c }) ≡ b → (j : List ℕ) × (cond b (Some key) (made d) ≡ Some j)
        go true q = (key, refl)
        go false q = (k, e)

    now_made : made' (record { tuple = tuple at; site = c }) ≡ Some key
    now_made = ap (λ b. cond b (Some key) (made (record { tuple = tuple at; site = c }))) (ap₂ ◌&&◌ (eq-eqb c c refl) (same_tuple_refl (tuple at)))

    itself : (site : ℕ) → IsLaterIn T site made' sv.store sv.store
    itself site = record { names = λ y w e. refl; calls = λ d k e z f. refl }

    module _ (y : ℕ) (z : Tree) (st : ResultStays T at made n y z) where
      differ : (st.site == c) ≡ false
      differ = go (st.site == c) refl
        where
          go : (b : Bool) → (st.site == c) ≡ b → b ≡ false
          go true q = absurd (another (record { tuple = tuple at; site = st.site }) st.key st.was_made (eqb-true st.site c q) (same_tuple_refl (tuple at)))
          go false q = refl

      later_too : (later : Store) → IsLaterIn T st.site made' sv.store later → IsLaterIn T st.site made n later
      later_too later l = record {
        names = λ x w e. sv.elsewhere x w (kept_elsewhere st.site c differ (T.role x) e) ∙ l.names x w e;
        calls = λ d k e w h. here d k e w h (d.site == c) refl (same_tuple d.tuple (tuple at)) refl ∙ (let j = still_made d k e in l.calls d j.0 j.1 w h);
      }
        where
          here : (d : CallNumber) (k : List ℕ) → made d ≡ Some k → (w : ℕ) → T.has d.site w ≡ true → (b : Bool) → (d.site == c) ≡ b → (f : Bool) → same_tuple d.tuple (tuple at) ≡ f
              → n (T.calls.drawn.variable d.site w) d.tuple ≡ sv.store (T.calls.drawn.variable d.site w) d.tuple
          here d k e w h true q true u = absurd (another d k e (eqb-true d.site c q) u)
          here d k e w h b q false u = sv.other_tuples (T.calls.drawn.variable d.site w) d.tuple u
          here d k e w h false q f u = sv.elsewhere (T.calls.drawn.variable d.site w) d.tuple (ap (is_elsewhere c) (T.variables d.site w h) ∙ ap not q)

      same_value : value T.g at sv.store z ≡ value T.g at n z
      same_value = st.value sv.store (later_too sv.store (itself st.site))

      stays_too : ResultStays T at made' sv.store y z
      stays_too = record {
        site = st.site;
        key = (still_made (record { tuple = tuple at; site = st.site }) st.key st.was_made).0;
        was_made = (still_made (record { tuple = tuple at; site = st.site }) st.key st.was_made).1;
        answer = st.answer;
        value = λ later l. st.value later (later_too later l) ∙ sym same_value;
      }

    all_stay : (o : Answers) (qs : Results) → ResultsStay T at made n o qs → ResultsStay T at made' sv.store o qs
    all_stay [] [] st = tt
    all_stay (y ∷ o) (q ∷ qs) st = (stays_too y.0 q.1 st.0, all_stay o qs st.1)
    all_stay [] (q ∷ qs) st = absurd st
    all_stay (y ∷ o) [] st = absurd st

    pub results_then : (o : Answers) → ResultsStay T at made n o rs → ResultsStay T at made' sv.store ((x, index_terms v.calling.caller.replications) ∷ o) ((x, sv.result) ∷ rs)
    results_then o st =
        (record { site = c; key = key; was_made = now_made; answer = v.answer ∙ ap T.answer (sym v.number); value = λ later l. sv.value later l ∙ sym (sv.value sv.store (itself c)) }, all_stay o rs st)

    all_have : (o : Answers) (qs : Results) → ResultsStay T at made n o qs → HaveAnswers T at m n o qs → HaveAnswers T at (put m x (tuple at) asked.value) sv.store o qs
    all_have [] [] st ha = tt
    all_have (y ∷ o) (q ∷ qs) st ha =
        (ha.0, ha.1, ha.2, ha.3, ha.4, sym (other_put m x (tuple at) asked.value y.0 (tuple at) (go (y.0 == x) refl)) ∙ ha.5 ∙ ap Some (sym (same_value y.0 q.1 st.0)), all_have o qs st.1 ha.6)
      where
        none : m x (tuple at) ≡ None
        none = ap (λ z. m z (tuple at)) (v.answer ∙ ap T.answer (sym v.number)) ∙ v.expected.fresh

        go : (b : Bool) → (y.0 == x) ≡ b → b ≡ false
        go true e = absurd (both_ways _ (ap is_some (ap (λ z. m z (tuple at)) (eqb-true y.0 x e) ∙ none)) (ap is_some ha.5))
        go false e = refl
    all_have [] (q ∷ qs) st ha = absurd st
    all_have (y ∷ o) [] st ha = absurd st

    pub answers_then : (o : Answers) → ResultsStay T at made n o rs → HaveAnswers T at m n o rs → HaveAnswers T at (put m x (tuple at) asked.value) sv.store ((x, index_terms v.calling.caller.replications) ∷ o) ((x, sv.result) ∷ rs)
    answers_then o st ha =
        (refl, ap T.role v.answer ∙ T.answers l, v.no_index, v.no_constant, v.expected.here.terms, put_here m x (tuple at) asked.value ∙ ap Some (ap (λ (r : OracleAnswer). r.value) (sym one_reply) ∙ sym (sv.value sv.store (itself c))), all_have o rs st ha)

    pub service_then : serve T.g u (next_in T.calls rs (Node (Call x l) a b)) ql k vs (local at n es br) ≡ serve T.g u (kont sv.result) sv.place sv.branch sv.chosen (local at sv.store es br)
    unfolding next_in
    service_then = ap (λ c. serve T.g u (call_in_game T.calls c (second a) kont) ql k vs (local at n es br)) v.at_site ∙ sv.service

  mutual
    unfolding serve step visits next_in with_results IsFineContext

    pub serve_next : (b : Tree) (o : Answers) (rs : Results) → IsFineContext T o b → (pl ql k k' : ℕ) (vs vs' : List ℕ) → SameTurn o k k' vs vs'
        → (at : Indices) (es : List Happened) (m : Store) (ar br : Arrays) (n : Store) (made : MadeUnder) → AreRelatedIn T made m ar n → HaveAnswers T at m n o rs → ResultsStay T at made n o rs
        → AllByRecursion (IsExpected T) (visits g₁ t b pl k vs (local at m es ar)) → Alike (serve g₁ t b pl k vs (local at m es ar)) (serve T.g u (next_in T.calls rs b) ql k' vs' (local at n es br))
    serve_next Empty o rs f pl ql k k' vs vs' tu at es m ar br n made rel ha st ex = record { reply = refl; memory = record { made = made; stores = rel; events = refl }; opened = tt }
    serve_next (Node Yield a b) o rs f pl ql k k' vs vs' tu at es m ar br n made rel ha st ex = record { reply = refl; memory = record { made = made; stores = rel; events = refl }; opened = tt }
    serve_next (Node (In c) a b) o rs f pl ql k k' vs vs' tu at es m ar br n made rel ha st ex =
        subst (λ z. Alike (serve g₁ t b (second_place pl (In c) a) 0 [] (local at (bound_to m (tuple at) (second a) vs) es ar)) (serve T.g u (next_in T.calls [] b) (second_place ql (In c) a) 0 [] (local at (bound_to n (tuple at) (second a) z) es br)))
        (turn_of o k k' vs vs' f.0 tu).1
        (serve_next b [] [] f.2 _ _ 0 0 [] [] (refl, refl) at es _ ar br _ made (bound_related T tapes.key_gone made m ar n rel (tuple at) (second a) vs f.1 ex.0) tt tt ex.1)
    serve_next (Node (New x S) a b) o rs f pl ql k k' vs vs' tu at es m ar br n made rel ha st ex =
        serve_next b [] [] f.2 _ _ 0 0 [] [] (refl, refl) at es _ ar br _ made
        (subst (λ z. AreRelatedIn T made (put m x (tuple at) (t (New_at x (tuple at)))) ar (put n x (tuple at) z)) (tapes.chosen x (tuple at) f.1) (put_related T tapes.key_gone made m ar n rel x (tuple at) (t (New_at x (tuple at))) f.1 ex.0)) tt tt ex.1
    serve_next (Node (Key x) a b) o rs f pl ql k k' vs vs' tu at es m ar br n made rel ha st ex =
        serve_next b [] [] f.2 _ _ 0 0 [] [] (refl, refl) at es _ ar br _ made
        (subst (λ z. AreRelatedIn T made (put m x (tuple at) 0) ar (put n T.calls.drawn.key (tuple at) z)) (tapes.key (tuple at))
        (subst (λ y. AreRelatedIn T made (put m y (tuple at) 0) ar (put n T.calls.drawn.key (tuple at) (T.side_tape (Key_at (tuple at))))) (sym f.1) (key_related T tapes.key_gone made m ar n rel (tuple at) (ap (λ y. m y (tuple at)) (sym f.1) ∙ ex.0)))) tt tt ex.1
    serve_next (Node (Call x l) a b) o rs f pl ql k k' vs vs' tu at es m ar br n made rel ha st ex =
        subst (λ z. Alike (serve g₁ t b (second_place pl (Call x l) a) 0 [] (local at (put m x (tuple at) (asked x l a b rs at es m ar br n made rel ex.0 ql k' vs').value) es (asked x l a b rs at es m ar br n made rel ex.0 ql k' vs').arrays)) z)
        (sym (service_then x l a b rs at es m ar br n made rel ex.0 ql k' vs'))
        (serve_next b ((x, index_terms ex.0.calling.caller.replications) ∷ o) _ (f ex.0.calling ex.0.at_site) _ _ 0 _ [] _ tt at es _ _ br _ _ (related_then x l a b rs at es m ar br n made rel ex.0 ql k' vs')
        (answers_then x l a b rs at es m ar br n made rel ex.0 ql k' vs' o st ha)
        (results_then x l a b rs at es m ar br n made rel ex.0 ql k' vs' o st) ex.1)
    serve_next (Node (Find l) a b) o rs f pl ql k k' vs vs' tu at es m ar br n made rel ha st ex =
        subst (λ z. Alike (after_turn (λ r. r) (serve g₁ t a (first_place pl (Find l))) (serve g₁ t b (second_place pl (Find l) a)) (after_find (local at m es ar) (chosen (candidates g₁ at m a) (t (Find_at l (tuple at))))))
        (after_turn (λ r. r) (serve T.g u (next_in T.calls [] a) (first_place ql (Find l))) (serve T.g u (next_in T.calls [] b) (second_place ql (Find l) (next_in T.calls [] a))) (after_find (local at n es br) z)))
        (ap₂ chosen (candidates_same T.g (side_from (oracles_in T)) at m a ∙ candidates_next T tapes.key_gone at m n rel.ordinary rel.key_cells a f.2) (f.1 (tuple at)))
        (picked_next a b _ _ _ _ at m es ar br n
        (λ j ws e. serve_branches a f.2 _ _ j ws at es m ar br n made rel e)
        (λ j ws e. serve_next b [] [] f.3 _ _ j j ws ws (refl, refl) at es m ar br n made rel tt tt e)
        (chosen (candidates g₁ at m a) (t (Find_at l (tuple at)))) ex.1)
    serve_next (Node Cons a b) o rs f pl ql zero k' vs vs' tu at es m ar br n made rel ha st ex =
        let h : (zero ≡ k') × (vs ≡ vs') = turn_of o zero k' vs vs' f.0 tu in
        subst (λ j. Alike (serve g₁ t (Node Cons a b) pl zero vs (local at m es ar)) (serve T.g u (Node Cons (next_in T.calls [] a) (next_in T.calls [] b)) ql j vs' (local at n es br))) h.0
        (serve_next a [] [] f.1 _ _ 0 0 vs vs' (refl, h.1) at es m ar br n made rel tt tt ex.1)
    serve_next (Node Cons a b) o rs f pl ql (suc k) k' vs vs' tu at es m ar br n made rel ha st ex =
        let h : (suc k ≡ k') × (vs ≡ vs') = turn_of o (suc k) k' vs vs' f.0 tu in
        subst (λ j. Alike (serve g₁ t (Node Cons a b) pl (suc k) vs (local at m es ar)) (serve T.g u (Node Cons (next_in T.calls [] a) (next_in T.calls [] b)) ql j vs' (local at n es br))) h.0
        (serve_next b [] [] f.2 _ _ k k vs vs' (refl, h.1) at es m ar br n made rel tt tt ex.1)
    serve_next (Node (Let x S) a b) o rs f pl ql k k' vs vs' tu at es m ar br n made rel ha st ex =
        serve_next b [] [] f.2 _ _ 0 0 [] [] (refl, refl) at es _ ar br _ made
        (subst (λ z. AreRelatedIn T made (put m x (tuple at) (value g₁ at m a)) ar (put n x (tuple at) z)) (value_same T.g (side_from (oracles_in T)) at m a ∙ value_with T tapes.key_gone at m n rel.ordinary o rs ha a f.1)
        (put_related T tapes.key_gone made m ar n rel x (tuple at) (value g₁ at m a) f.0 ex.0)) tt tt ex.1
    serve_next (Node If a b) o rs f pl ql k k' vs vs' tu at es m ar br n made rel ha st ex =
        subst (λ z. Alike (serve g₁ t b (second_place pl If a) (if is_one (value g₁ at m a) then 0 else 1) [] (local at m es ar)) (serve T.g u (next_in T.calls [] b) (second_place ql If (with_results rs a)) (if is_one z then 0 else 1) [] (local at n es br)))
        (value_same T.g (side_from (oracles_in T)) at m a ∙ value_with T tapes.key_gone at m n rel.ordinary o rs ha a f.0)
        (serve_next b [] [] f.1 _ _ _ _ [] [] (refl, refl) at es m ar br n made rel tt tt ex.1)
    serve_next (Node (Event e) a b) o rs f pl ql k k' vs vs' tu at es m ar br n made rel ha st ex =
        subst (λ z. Alike (serve g₁ t b (second_place pl (Event e) a) 0 [] (local at m (es ++ (record { event = e; values = values g₁ at m a }) ∷ []) ar)) (serve T.g u (next_in T.calls [] b) (second_place ql (Event e) (with_results rs a)) 0 [] (local at n (es ++ (record { event = e; values = z }) ∷ []) br)))
        (values_same T.g (side_from (oracles_in T)) at m a ∙ values_with T tapes.key_gone at m n rel.ordinary o rs ha a f.0)
        (serve_next b [] [] f.1 _ _ 0 0 [] [] (refl, refl) at _ m ar br n made rel tt tt ex.1)
    serve_next (Node (Out c) (Node Cons is ms) b) o rs f pl ql k k' vs vs' tu at es m ar br n made rel ha st ex =
        record {
          reply = ap (Sent c (tuple at)) (values_same T.g (side_from (oracles_in T)) at m ms ∙ values_with T tapes.key_gone at m n rel.ordinary o rs ha ms f.0);
          memory = record { made = made; stores = rel; events = refl };
          opened = inputs_next b f.1 _ _ at;
        }
    serve_next _ o rs f pl ql k k' vs vs' tu at es m ar br n made rel ha st ex = absurd f

    serve_branches : (a : Tree) → AreFineBranchesIn T a → (pl ql j : ℕ) (ws : List ℕ) (at : Indices) (es : List Happened) (m : Store) (ar br : Arrays) (n : Store) (made : MadeUnder) → AreRelatedIn T made m ar n
        → AllByRecursion (IsExpected T) (visits g₁ t a pl j ws (local at m es ar)) → Alike (serve g₁ t a pl j ws (local at m es ar)) (serve T.g u (next_in T.calls [] a) ql j ws (local at n es br))
    serve_branches Empty f pl ql j ws at es m ar br n made rel ex = record { reply = refl; memory = record { made = made; stores = rel; events = refl }; opened = tt }
    serve_branches (Node Cons (Node Branch us (Node Cons cells (Node Cons c body))) more) f pl ql zero ws at es m ar br n made rel ex =
        serve_next body [] [] f.3 _ _ 0 0 [] [] (refl, refl) at es _ ar br _ made (bound_related T tapes.key_gone made m ar n rel (tuple at) us ws f.0 ex.1.0) tt tt ex.1.1.1.1
    serve_branches (Node Cons (Node Branch us (Node Cons cells (Node Cons c body))) more) f pl ql (suc j) ws at es m ar br n made rel ex =
        serve_branches more f.4 _ _ j ws at es m ar br n made rel ex.1
    serve_branches _ f pl ql j ws at es m ar br n made rel ex = absurd f
