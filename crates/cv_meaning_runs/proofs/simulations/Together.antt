-- Two runs, move by move: where moments are as expected, whole runs are alike, and so are their moments.
use Rattle.std.proofs.Common.{◌≡◌, ℕ, zero, suc, Bool, true, false, cond, ◌&&◌, ◌==◌, List, [], ◌∷◌, ◌++◌, map, Option, Some, None, refl, ap, ap₂, subst, sym, is_some}
use Rattle.std.specs.List.{AllByRecursion}
use Rattle.cv_syntax_trees.specs.Tree.{Tree}
use Rattle.cv_meaning.specs.Tapes.{Tape, same_tuple}
use Rattle.cv_meaning.specs.Interpretation.{Setting}
use Rattle.cv_meaning.specs.Memory.{Memory}
use Rattle.cv_meaning.specs.Binders.{fits}
use Rattle.cv_meaning.specs.Inputs.{Input, message_binders}
use Rattle.cv_meaning.specs.Serving.{Visit, visits}
use Rattle.cv_meaning.specs.Runs.{Mode, Adversary, Answer, Refused, Replied, Told, Move, Calls, Tests, Guesses, State, Taken, taken, behind, begun, is_at, if_fitting, called, told, tested_with, moved, run_from, next_move, by_move, visits_of_call, visits_of_move, start}
use Rattle.cv_meaning.specs.Experiments.{run, coins_on}
use Rattle.cv_meaning_runs.specs.Moments.{Moment, Visited, Tested, moments_of_move, run_moments, moments_of_run}
use Rattle.cv_meaning_runs.specs.Simulation.{InOrder, AreAlike}
use Rattle.cv_meaning_runs.proofs.Simulation.{in_order_append}
use Rattle.cv_meaning_runs.proofs.Together.{coins_same}
use Rattle.cv_meaning_runs.specs.simulations.Moments.{AreMomentsAlike, tests_among, AreExpected, IsMomentSimulation, IsMomentGameSimulation, AreVisitedAlike}
use Rattle.cv_syntax_trees.proofs.lists.Each.{AllByRecursion_left, AllByRecursion_right}

expected_visits : (E : Moment → Type 0) (vs : List Visit) → AllByRecursion E (map Visited vs) → AreExpected E vs
expected_visits E [] w = tt
expected_visits E (v ∷ vs) w = (w.0, expected_visits E vs w.1)

-- a relation between lists of moments that is had by no moments, by tests that go with each other and by
-- the visits of services that do, and that is kept as moments follow
record IsKept (K : Memory → Memory → Type 0) (L : Input → Input → Type 0) (E : Moment → Type 0) (M : List Moment → List Moment → Type 0) (g h : Setting) (t u : Tape) : Type 0 where
  none : M [] []
  joined : (xs vs ys ws : List Moment) → M xs ys → M vs ws → M (xs ++ vs) (ys ++ ws)
  test : (x y : State) → AreAlike K L x y → (w : List ℕ) → M (Tested w x ∷ []) (Tested w y ∷ [])
  service :
      (x y : State) → AreAlike K L x y → (i j : Input) → L i j → (vs : List ℕ) → fits g.interpretation.type_size (message_binders i) vs ≡ true
      → AreExpected E (visits g t i.tree i.place 0 vs (begun x i)) → M (map Visited (visits g t i.tree i.place 0 vs (begun x i))) (map Visited (visits h u j.tree j.place 0 vs (begun y j)))

-- states that are alike, after moments that are related
record AreTogether (K : Memory → Memory → Type 0) (L : Input → Input → Type 0) (M : List Moment → List Moment → Type 0) (x y : State) (vs ws : List Moment) : Type 0 where
  state : AreAlike K L x y
  moments : M vs ws

-- where a run of a move and at most k more ends, and its moments
abbrev end_from : Setting → Mode → (List Answer → Option Move) → Tape → ℕ → State → Option Move → State
end_from g m next t k x o = by_move x (λ a. run_from g m next t k (moved g m t x a)) o

abbrev moments_from : Setting → Mode → (List Answer → Option Move) → Tape → ℕ → State → Option Move → List Moment
moments_from g m next t k x o = by_move [] (λ a. moments_of_move g t x a ++ run_moments g m next t k (moved g m t x a)) o

module _ (K : Memory → Memory → Type 0) (L : Input → Input → Type 0) (E : Moment → Type 0) (M : List Moment → List Moment → Type 0) (g h : Setting) (m n : Mode) (t u : Tape) (sim : IsMomentSimulation K L E g h m n t u) (kept : IsKept K L E M g h t u) where
  -- what two calls take is related
  abbrev AreTakenAlike : Option Taken → Option Taken → Type 0
  AreTakenAlike None None = Unit {0}
  AreTakenAlike (Some k) (Some l) = L k.input l.input × InOrder L k.others l.others
  AreTakenAlike _ _ = ⊥

  behind_alike : (i j : Input) → L i j → (o r : Option Taken) → AreTakenAlike o r → AreTakenAlike (behind i o) (behind j r)
  behind_alike i j s None None e = tt
  behind_alike i j s (Some k) (Some l) e = (e.0, (s, e.1))
  behind_alike i j s None (Some l) e = absurd e
  behind_alike i j s (Some k) None e = absurd e

  taken_alike : (c : ℕ) (w : List ℕ) (is js : List Input) → InOrder L is js → AreTakenAlike (taken c w is) (taken c w js)
  unfolding taken
  taken_alike c w [] [] e = tt
  taken_alike c w (i ∷ is) (j ∷ js) e =
      subst (λ b. AreTakenAlike (cond (is_at c w i) (Some (record { input = i; others = is })) (behind i (taken c w is))) (cond b (Some (record { input = j; others = js })) (behind j (taken c w js))))
      (ap₂ (λ d v. (d == c) && same_tuple v w) (sim.channel i j e.0) (sim.tuple i j e.0))
      (go (is_at c w i) (taken_alike c w is js e.1))
    where
      go :
          (v : Bool) → AreTakenAlike (taken c w is) (taken c w js)
          → AreTakenAlike (cond v (Some (record { input = i; others = is })) (behind i (taken c w is))) (cond v (Some (record { input = j; others = js })) (behind j (taken c w js)))
      go true ih = e
      go false ih = behind_alike i j e.0 _ _ ih
  taken_alike c w [] (j ∷ js) e = absurd e
  taken_alike c w (i ∷ is) [] e = absurd e

  answered_alike : (x y : State) → AreAlike K L x y → (a : Answer) → AreAlike K L (record x { answers = x.answers ++ a ∷ [] }) (record y { answers = y.answers ++ a ∷ [] })
  answered_alike x y s a = record { memory = s.memory; inputs = s.inputs; answers = ap (λ ws. ws ++ a ∷ []) s.answers; tested = s.tested; guess = s.guess }

  refused_together : (x y : State) → AreAlike K L x y → AreTogether K L M (called g t x [] None) (called h u y [] None) [] []
  refused_together x y s = record { state = answered_alike x y s Refused; moments = kept.none }

  called_together :
      (x y : State) → AreAlike K L x y → (vs : List ℕ) (o r : Option Taken) → AreTakenAlike o r → AllByRecursion E (map Visited (visits_of_call g t x vs (if_fitting g vs o)))
      → AreTogether K L M (called g t x vs (if_fitting g vs o)) (called h u y vs (if_fitting h vs r)) (map Visited (visits_of_call g t x vs (if_fitting g vs o))) (map Visited (visits_of_call h u y vs (if_fitting h vs r)))
  called_together x y s vs None None e w = refused_together x y s
  called_together x y s vs (Some k) (Some l) e w =
      subst (λ b. AreTogether K L M (called g t x vs (if_fitting g vs (Some k))) (called h u y vs (cond b (Some l) None)) (map Visited (visits_of_call g t x vs (if_fitting g vs (Some k)))) (map Visited (visits_of_call h u y vs (cond b (Some l) None))))
      (sim.message k.input l.input e.0 vs)
      (go (fits g.interpretation.type_size (message_binders k.input) vs) refl w)
    where
      go :
          (b : Bool) → fits g.interpretation.type_size (message_binders k.input) vs ≡ b → AllByRecursion E (map Visited (visits_of_call g t x vs (cond b (Some k) None)))
          → AreTogether K L M (called g t x vs (cond b (Some k) None)) (called h u y vs (cond b (Some l) None)) (map Visited (visits_of_call g t x vs (cond b (Some k) None))) (map Visited (visits_of_call h u y vs (cond b (Some l) None)))
      go false f w = refused_together x y s
      go true f w =
          let v = expected_visits E (visits_of_call g t x vs (Some k)) w in
          let q = sim.served x y s k.input l.input e.0 vs f v in
          record {
            state = record { memory = q.memory; inputs = in_order_append L _ _ _ _ e.1 q.opened; answers = ap₂ (λ ws r. ws ++ Replied r ∷ []) s.answers q.reply; tested = s.tested; guess = s.guess };
            moments = kept.service x y s k.input l.input e.0 vs f v;
          }
  called_together x y s vs None (Some l) e w = absurd e
  called_together x y s vs (Some k) None e w = absurd e

  tested_alike : (x y : State) → AreAlike K L x y → (o : Option ℕ) → AreAlike K L (tested_with x o) (tested_with y o)
  tested_alike x y s None = answered_alike x y s Refused
  tested_alike x y s (Some v) = record { memory = s.memory; inputs = s.inputs; answers = ap (λ ws. ws ++ Told v ∷ []) s.answers; tested = refl; guess = s.guess }

  moved_together : (x y : State) → AreAlike K L x y → (a : Move) → AllByRecursion E (moments_of_move g t x a) → AreTogether K L M (moved g m t x a) (moved h n u y a) (moments_of_move g t x a) (moments_of_move h u y a)
  unfolding moved visits_of_move moments_of_move
  moved_together x y s (Calls c w vs) f = called_together x y s vs _ _ (taken_alike c w _ _ s.inputs) f
  moved_together x y s (Tests w) f = record {
    state = subst (λ o. AreAlike K L (tested_with x (told m t x w)) (tested_with y o)) (sim.told x y s w f.0) (tested_alike x y s (told m t x w));
    moments = kept.test x y s w;
  }
  moved_together x y s (Guesses b) f = record {
    state = record { memory = s.memory; inputs = s.inputs; answers = s.answers; tested = s.tested; guess = refl };
    moments = kept.none;
  }

  run_together :
      (next : List Answer → Option Move) (k : ℕ) (x y : State) → AreAlike K L x y → AllByRecursion E (run_moments g m next t k x)
      → AreTogether K L M (run_from g m next t k x) (run_from h n next u k y) (run_moments g m next t k x) (run_moments h n next u k y)
  unfolding run_from run_moments
  run_together next zero x y s w = record { state = s; moments = kept.none }
  run_together next (suc k) x y s w =
      subst (λ o. AreTogether K L M (end_from g m next t k x (next_move next x)) (end_from h n next u k y o) (moments_from g m next t k x (next_move next x)) (moments_from h n next u k y o))
      (ap₂ (λ b ws. cond (is_some b) None (next ws)) s.guess s.answers)
      (go (next_move next x) (λ a r f. run_together next k _ _ r f) w)
    where
      go :
          (o : Option Move)
          → ((a : Move) → AreAlike K L (moved g m t x a) (moved h n u y a) → AllByRecursion E (run_moments g m next t k (moved g m t x a))
          → AreTogether K L M (run_from g m next t k (moved g m t x a)) (run_from h n next u k (moved h n u y a)) (run_moments g m next t k (moved g m t x a)) (run_moments h n next u k (moved h n u y a)))
          → AllByRecursion E (moments_from g m next t k x o)
          → AreTogether K L M (end_from g m next t k x o) (end_from h n next u k y o) (moments_from g m next t k x o) (moments_from h n next u k y o)
      go None ih w = record { state = s; moments = kept.none }
      go (Some a) ih w =
          let r = moved_together x y s a (AllByRecursion_left E (moments_of_move g t x a) _ w) in
          let q = ih a r.state (AllByRecursion_right E (moments_of_move g t x a) _ w) in
          record { state = q.state; moments = kept.joined _ _ _ _ r.moments q.moments }

games_together :
    (K : Memory → Memory → Type 0) (L : Input → Input → Type 0) (E : Moment → Type 0) (M : List Moment → List Moment → Type 0) (a : Adversary) (g h : Setting) (m n : Mode) (x y : Tree) (t u : Tape)
    → IsMomentGameSimulation K L E a g h m n x y t u → IsKept K L E M g h t u → AreTogether K L M (run g m a x t) (run h n a y u) (moments_of_run g m a x t) (moments_of_run h n a y u)
unfolding run moments_of_run
games_together K L E M a g h m n x y t u s kept =
    let first = a.next (coins_on t 0 a.coins) in
    subst (λ cs. AreTogether K L M (run_from g m first t a.moves (start g x)) (run_from h n (a.next cs) u a.moves (start h y)) (run_moments g m first t a.moves (start g x)) (run_moments h n (a.next cs) u a.moves (start h y)))
    (coins_same t u 0 a.coins s.coins)
    (run_together K L E M g h m n t u s.steps kept first a.moves (start g x) (start h y) (record { memory = s.memory; inputs = s.begun; answers = refl; tested = refl; guess = refl }) s.moments)

-- the relations that are kept

tests_append : (xs ys : List Moment) → tests_among (xs ++ ys) ≡ tests_among xs ++ tests_among ys
tests_append [] ys = refl
tests_append (Visited v ∷ xs) ys = tests_append xs ys
tests_append (Tested w x ∷ xs) ys = ap (λ zs. Tested w x ∷ zs) (tests_append xs ys)

no_tests : (vs : List Visit) → tests_among (map Visited vs) ≡ []
no_tests [] = refl
no_tests (v ∷ vs) = no_tests vs

module _ (K : Memory → Memory → Type 0) (L : Input → Input → Type 0) (V : Visit → Visit → Type 0) where
  visits_in_order : (vs ws : List Visit) → InOrder V vs ws → InOrder (AreMomentsAlike K L V) (map Visited vs) (map Visited ws)
  visits_in_order [] [] e = tt
  visits_in_order (v ∷ vs) (w ∷ ws) e = (e.0, visits_in_order vs ws e.1)
  visits_in_order [] (w ∷ ws) e = absurd e
  visits_in_order (v ∷ vs) [] e = absurd e

  abbrev AreTestsAlike : List Moment → List Moment → Type 0
  AreTestsAlike xs ys = InOrder (AreMomentsAlike K L V) (tests_among xs) (tests_among ys)

  tests_kept : (E : Moment → Type 0) (g h : Setting) (t u : Tape) → IsKept K L E AreTestsAlike g h t u
  tests_kept E g h t u = record {
    none = tt;
    joined = λ xs vs ys ws e f. subst (λ zs. InOrder (AreMomentsAlike K L V) (tests_among (xs ++ vs)) zs) (sym (tests_append ys ws))
        (subst (λ zs. InOrder (AreMomentsAlike K L V) zs (tests_among ys ++ tests_among ws)) (sym (tests_append xs vs)) (in_order_append (AreMomentsAlike K L V) _ _ _ _ e f));
    test = λ x y s w. ((refl, s), tt);
    service = λ x y s i j l vs f v. subst (λ zs. InOrder (AreMomentsAlike K L V) (tests_among (map Visited (visits g t i.tree i.place 0 vs (begun x i)))) zs) (sym (no_tests (visits h u j.tree j.place 0 vs (begun y j))))
        (subst (λ zs. InOrder (AreMomentsAlike K L V) zs []) (sym (no_tests (visits g t i.tree i.place 0 vs (begun x i)))) tt);
  }

  moments_kept : (E : Moment → Type 0) (g h : Setting) (t u : Tape) → AreVisitedAlike K L V E g h t u → IsKept K L E (InOrder (AreMomentsAlike K L V)) g h t u
  moments_kept E g h t u e = record {
    none = tt;
    joined = in_order_append (AreMomentsAlike K L V);
    test = λ x y s w. ((refl, s), tt);
    service = λ x y s i j l vs f v. visits_in_order _ _ (e x y s i j l vs f v);
  }

  pub moves_alike :
      (E : Moment → Type 0) (g h : Setting) (m n : Mode) (t u : Tape) → IsMomentSimulation K L E g h m n t u
      → (next : List Answer → Option Move) (k : ℕ) (x y : State) → AreAlike K L x y → AllByRecursion E (run_moments g m next t k x) → AreAlike K L (run_from g m next t k x) (run_from h n next u k y)
  moves_alike E g h m n t u sim next k x y s w = (run_together K L E AreTestsAlike g h m n t u sim (tests_kept E g h t u) next k x y s w).state

  pub tests_of_moves_alike :
      (E : Moment → Type 0) (g h : Setting) (m n : Mode) (t u : Tape) → IsMomentSimulation K L E g h m n t u
      → (next : List Answer → Option Move) (k : ℕ) (x y : State) → AreAlike K L x y → AllByRecursion E (run_moments g m next t k x)
      → InOrder (AreMomentsAlike K L V) (tests_among (run_moments g m next t k x)) (tests_among (run_moments h n next u k y))
  tests_of_moves_alike E g h m n t u sim next k x y s w = (run_together K L E AreTestsAlike g h m n t u sim (tests_kept E g h t u) next k x y s w).moments

  pub moments_of_moves_alike :
      (E : Moment → Type 0) (g h : Setting) (m n : Mode) (t u : Tape) → IsMomentSimulation K L E g h m n t u → AreVisitedAlike K L V E g h t u
      → (next : List Answer → Option Move) (k : ℕ) (x y : State) → AreAlike K L x y → AllByRecursion E (run_moments g m next t k x)
      → InOrder (AreMomentsAlike K L V) (run_moments g m next t k x) (run_moments h n next u k y)
  moments_of_moves_alike E g h m n t u sim e next k x y s w = (run_together K L E (InOrder (AreMomentsAlike K L V)) g h m n t u sim (moments_kept E g h t u e) next k x y s w).moments

  pub games_alike : (E : Moment → Type 0) (a : Adversary) (g h : Setting) (m n : Mode) (x y : Tree) (t u : Tape) → IsMomentGameSimulation K L E a g h m n x y t u → AreAlike K L (run g m a x t) (run h n a y u)
  games_alike E a g h m n x y t u s = (games_together K L E AreTestsAlike a g h m n x y t u s (tests_kept E g h t u)).state

  pub tests_alike :
      (E : Moment → Type 0) (a : Adversary) (g h : Setting) (m n : Mode) (x y : Tree) (t u : Tape) → IsMomentGameSimulation K L E a g h m n x y t u
      → InOrder (AreMomentsAlike K L V) (tests_among (moments_of_run g m a x t)) (tests_among (moments_of_run h n a y u))
  tests_alike E a g h m n x y t u s = (games_together K L E AreTestsAlike a g h m n x y t u s (tests_kept E g h t u)).moments

  pub moments_alike :
      (E : Moment → Type 0) (a : Adversary) (g h : Setting) (m n : Mode) (x y : Tree) (t u : Tape) → IsMomentGameSimulation K L E a g h m n x y t u → AreVisitedAlike K L V E g h t u
      → InOrder (AreMomentsAlike K L V) (moments_of_run g m a x t) (moments_of_run h n a y u)
  moments_alike E a g h m n x y t u s e = (games_together K L E (InOrder (AreMomentsAlike K L V)) a g h m n x y t u s (moments_kept E g h t u e)).moments
