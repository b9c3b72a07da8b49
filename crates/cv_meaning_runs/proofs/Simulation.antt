-- Two runs, move by move: where related inputs are served alike, whole runs are alike.
use Rattle.std.proofs.Common.{◌≡◌, ℕ, zero, suc, Bool, true, false, cond, ◌&&◌, ◌==◌, List, [], ◌∷◌, ◌++◌, Option, Some, None, refl, ap, ap₂, subst, is_some}
use Rattle.std.specs.List.{AllByRecursion}
use Rattle.cv_syntax_trees.specs.Tree.{Tree}
use Rattle.cv_meaning.specs.Tapes.{Tape, same_tuple}
use Rattle.cv_meaning.specs.Interpretation.{Setting}
use Rattle.cv_meaning.specs.Memory.{Memory}
use Rattle.cv_meaning.specs.Binders.{fits}
use Rattle.cv_meaning.specs.Inputs.{Input, message_binders}
use Rattle.cv_meaning.specs.Serving.{Visit}
use Rattle.cv_meaning.specs.Runs.{Mode, Adversary, Answer, Refused, Replied, Told, Move, Calls, Tests, Guesses, State, Taken, taken, behind, is_at, if_fitting, called, told, tested_with, moved, run_from, next_move, by_move, visits_of_call, visits_of_move, run_visits, start}
use Rattle.cv_meaning.specs.Experiments.{run, visits_of_run, coins_on}
use Rattle.cv_meaning_runs.specs.Simulation.{InOrder, AreAlike, IsSimulation, IsGameSimulation}
use Rattle.cv_meaning_runs.proofs.Together.{coins_same}
use Rattle.cv_syntax_trees.proofs.lists.Each.{AllByRecursion_left, AllByRecursion_right}

pub in_order_append : {A B : Type 0} (R : A → B → Type 0) (xs vs : List A) (ys ws : List B) → InOrder R xs ys → InOrder R vs ws → InOrder R (xs ++ vs) (ys ++ ws)
in_order_append R [] vs [] ws h k = k
in_order_append R (x ∷ xs) vs (y ∷ ys) ws h k = (h.0, in_order_append R xs vs ys ws h.1 k)
in_order_append R [] vs (y ∷ ys) ws h k = absurd h
in_order_append R (x ∷ xs) vs [] ws h k = absurd h

module _ (K : Memory → Memory → Type 0) (L : Input → Input → Type 0) (V : Visit → Type 0) (g h : Setting) (m n : Mode) (t u : Tape) (sim : IsSimulation K L V g h m n t u) where
  -- what two calls take is related, and its message fits
  abbrev TakenAlike : Option Taken → Option Taken → Type 0
  TakenAlike None None = Unit {0}
  TakenAlike (Some k) (Some l) = L k.input l.input × InOrder L k.others l.others
  TakenAlike _ _ = ⊥

  behind_alike : (i j : Input) → L i j → (o r : Option Taken) → TakenAlike o r → TakenAlike (behind i o) (behind j r)
  behind_alike i j s None None e = tt
  behind_alike i j s (Some k) (Some l) e = (e.0, (s, e.1))
  behind_alike i j s None (Some l) e = absurd e
  behind_alike i j s (Some k) None e = absurd e

  taken_alike : (c : ℕ) (w : List ℕ) (is js : List Input) → InOrder L is js → TakenAlike (taken c w is) (taken c w js)
  unfolding taken
  taken_alike c w [] [] e = tt
  taken_alike c w (i ∷ is) (j ∷ js) e =
      subst (λ b. TakenAlike (cond (is_at c w i) (Some (record { input = i; others = is })) (behind i (taken c w is))) (cond b (Some (record { input = j; others = js })) (behind j (taken c w js))))
      (ap₂ (λ d v. (d == c) && same_tuple v w) (sim.channel i j e.0) (sim.tuple i j e.0))
      (go (is_at c w i) (taken_alike c w is js e.1))
    where
      go : (v : Bool) → TakenAlike (taken c w is) (taken c w js) → TakenAlike (cond v (Some (record { input = i; others = is })) (behind i (taken c w is))) (cond v (Some (record { input = j; others = js })) (behind j (taken c w js)))
      go true ih = e
      go false ih = behind_alike i j e.0 _ _ ih
  taken_alike c w [] (j ∷ js) e = absurd e
  taken_alike c w (i ∷ is) [] e = absurd e

  answered_alike : (x y : State) → AreAlike K L x y → (a : Answer) → AreAlike K L (record x { answers = x.answers ++ a ∷ [] }) (record y { answers = y.answers ++ a ∷ [] })
  answered_alike x y s a = record { memory = s.memory; inputs = s.inputs; answers = ap (λ ws. ws ++ a ∷ []) s.answers; tested = s.tested; guess = s.guess }

  called_alike : (x y : State) → AreAlike K L x y → (vs : List ℕ) (o r : Option Taken) → TakenAlike o r → AllByRecursion V (visits_of_call g t x vs (if_fitting g vs o)) → AreAlike K L (called g t x vs (if_fitting g vs o)) (called h u y vs (if_fitting h vs r))
  called_alike x y s vs None None e w = answered_alike x y s Refused
  called_alike x y s vs (Some k) (Some l) e w =
      subst (λ b. AreAlike K L (called g t x vs (if_fitting g vs (Some k))) (called h u y vs (cond b (Some l) None))) (sim.message k.input l.input e.0 vs)
      (go (fits g.interpretation.type_size (message_binders k.input) vs) refl w)
    where
      go : (b : Bool) → fits g.interpretation.type_size (message_binders k.input) vs ≡ b → AllByRecursion V (visits_of_call g t x vs (cond b (Some k) None)) → AreAlike K L (called g t x vs (cond b (Some k) None)) (called h u y vs (cond b (Some l) None))
      go false f w = answered_alike x y s Refused
      go true f w =
          let q = sim.served x y s k.input l.input e.0 vs f w in
          record { memory = q.memory; inputs = in_order_append L _ _ _ _ e.1 q.opened; answers = ap₂ (λ ws r. ws ++ Replied r ∷ []) s.answers q.reply; tested = s.tested; guess = s.guess }
  called_alike x y s vs None (Some l) e w = absurd e
  called_alike x y s vs (Some k) None e w = absurd e

  tested_alike : (x y : State) → AreAlike K L x y → (o : Option ℕ) → AreAlike K L (tested_with x o) (tested_with y o)
  tested_alike x y s None = answered_alike x y s Refused
  tested_alike x y s (Some v) = record { memory = s.memory; inputs = s.inputs; answers = ap (λ ws. ws ++ Told v ∷ []) s.answers; tested = refl; guess = s.guess }

  moved_alike : (x y : State) → AreAlike K L x y → (a : Move) → AllByRecursion V (visits_of_move g t x a) → AreAlike K L (moved g m t x a) (moved h n u y a)
  unfolding moved visits_of_move
  moved_alike x y s (Calls c w vs) f = called_alike x y s vs _ _ (taken_alike c w _ _ s.inputs) f
  moved_alike x y s (Tests w) f = subst (λ o. AreAlike K L (tested_with x (told m t x w)) (tested_with y o)) (sim.told x y s w) (tested_alike x y s (told m t x w))
  moved_alike x y s (Guesses b) f = record { memory = s.memory; inputs = s.inputs; answers = s.answers; tested = s.tested; guess = refl }

  pub run_alike : (next : List Answer → Option Move) (k : ℕ) (x y : State) → AreAlike K L x y → AllByRecursion V (run_visits g m next t k x) → AreAlike K L (run_from g m next t k x) (run_from h n next u k y)
  unfolding run_from run_visits
  run_alike next zero x y s w = s
  run_alike next (suc k) x y s w =
      subst (λ o. AreAlike K L (by_move x (λ a. run_from g m next t k (moved g m t x a)) (next_move next x)) (by_move y (λ a. run_from h n next u k (moved h n u y a)) o)) (ap₂ (λ b ws. cond (is_some b) None (next ws)) s.guess s.answers)
      (go (next_move next x) (λ a f e. run_alike next k _ _ (moved_alike x y s a f) e) w)
    where
      go : (o : Option Move) → ((a : Move) → AllByRecursion V (visits_of_move g t x a) → AllByRecursion V (run_visits g m next t k (moved g m t x a)) → AreAlike K L (run_from g m next t k (moved g m t x a)) (run_from h n next u k (moved h n u y a)))
          → AllByRecursion V (by_move [] (λ a. visits_of_move g t x a ++ run_visits g m next t k (moved g m t x a)) o)
          → AreAlike K L (by_move x (λ a. run_from g m next t k (moved g m t x a)) o) (by_move y (λ a. run_from h n next u k (moved h n u y a)) o)
      go None ih w = s
      go (Some a) ih w = ih a (AllByRecursion_left V (visits_of_move g t x a) _ w) (AllByRecursion_right V (visits_of_move g t x a) _ w)

pub games_alike : (K : Memory → Memory → Type 0) (L : Input → Input → Type 0) (V : Visit → Type 0) (a : Adversary) (g h : Setting) (m n : Mode) (x y : Tree) (t u : Tape) → IsGameSimulation K L V a g h m n x y t u → AreAlike K L (run g m a x t) (run h n a y u)
unfolding run visits_of_run
games_alike K L V a g h m n x y t u s =
    subst (λ cs. AreAlike K L (run_from g m (a.next (coins_on t 0 a.coins)) t a.moves (start g x)) (run_from h n (a.next cs) u a.moves (start h y))) (coins_same t u 0 a.coins s.coins)
    (run_alike K L V g h m n t u s.steps (a.next (coins_on t 0 a.coins)) a.moves (start g x) (start h y) (record { memory = s.memory; inputs = s.begun; answers = refl; tested = refl; guess = refl }) s.visited)
