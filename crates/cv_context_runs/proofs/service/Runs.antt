-- The runs of a game and of its context are alike, where cells of the tape are swapped.
use Rattle.std.proofs.Common.{◌≡◌, ℕ, suc, Bool, true, false, cond, ◌&&◌, not, ◌==◌, List, [], ◌∷◌, Option, Some, None, is_some, refl, sym, ap, ap₂, ◌∙◌, eq-eqb, eqb-true}
use Rattle.std.proofs.lemmas.Bool.{both_ways, and_parts, not-true}
use Rattle.std.specs.List.{AllByRecursion}
use Rattle.cv_meaning.specs.Advantage.{chance_of}
use Rattle.cv_meaning.specs.Chances.{Same}
use Rattle.cv_meaning.specs.Binders.{fits}
use Rattle.cv_meaning.specs.Cells.{cells, coin_cells}
use Rattle.cv_meaning.specs.Experiments.{Experiment, coins_on, holds_on, mode_of, visits_of_run}
use Rattle.cv_meaning.specs.Inputs.{Input, message_binders}
use Rattle.cv_meaning.specs.Interpretation.{Interpretation, Setting}
use Rattle.cv_meaning.specs.Memory.{Memory, no_memory, tuple}
use Rattle.cv_meaning.specs.Runs.{Adversary, Events, Mode, Random, Real, State, begun, serve_input, told}
use Rattle.cv_meaning.specs.Serving.{serve, step, visits}
use Rattle.cv_meaning.specs.Side.{no_side}
use Rattle.cv_meaning.specs.Tapes.{Cell, Coin as CoinCell, Find_at, Key_at, Made_at, New_at, Picked_at, Tape, Test_at, cells_of}
use Rattle.cv_meaning_chances.proofs.alignment.Closing.{equal_under_names}
use Rattle.cv_meaning_chances.specs.Tests.{IsCoveredFor, renamed}
use Rattle.cv_meaning_runs.specs.Agreement.{AgreeAt}
use Rattle.cv_meaning_runs.specs.Simulation.{AreAlike, AreServedAlike, IsGameSimulation, IsSimulation}
use Rattle.cv_meaning_runs.proofs.Ends.{experiments_alike, holds_alike}
use Rattle.cv_meaning_runs.proofs.Simulation.{games_alike}
use Rattle.cv_scope_rules.specs.declared.position.Position.TheVariants.{Anywhere}
use Rattle.cv_scope_runs.specs.Reads.{VisitReadsAssigned}
use Rattle.cv_scope_runs.proofs.FactsRuns.{all_reads_assigned}
use Rattle.cv_scope_runs.proofs.Plain.{game_context}
use Rattle.cv_scene.specs.Reductions.{Reduction, in_context, in_game, sites}
use Rattle.cv_scene.specs.Cells.{Coin, are_paired, at_left, coin_from, is_that_coin, made_by, made_if, new_by, new_if, variable_from}
use Rattle.cv_scene.specs.Instances.{is_read_of}
use Rattle.cv_scene.specs.Apt.{IsAptGame, IsTestApt}
use Rattle.cv_context_runs.proofs.service.Kept.{Kept, put_bound}
use Rattle.cv_match_laws.proofs.values.Numbers.{context}
use Rattle.cv_context_runs.proofs.service.Served.{Like, copy, body_served, opened}

-- swapping twice changes nothing

module _ (r : Reduction) where
  new_again : (y : ℕ) (w : List ℕ) → (y == r.key) ≡ false → (o : Option Coin) → coin_from 0 (sites r) y ≡ o → at_left r (made_by r y w o) ≡ New_at y w
  new_again y w e None f = ap (λ b. cond b (Key_at w) (made_by r y w (coin_from 0 (sites r) y))) e ∙ ap (made_by r y w) f
  new_again y w e (Some k) f = go (are_paired r y k) refl
    where
      back : (o : Option ℕ) → is_read_of y o ≡ true → are_paired r y k ≡ true → new_by r w k o ≡ New_at y w
      back None z p = absurd (both_ways _ refl z)
      back (Some x) z p = let same : x ≡ y = eqb-true x y z in ap (λ v. new_by r w k (Some v)) same ∙ ap (λ b. new_if b y w k) p

      go : (b : Bool) → are_paired r y k ≡ b → at_left r (made_if b y w k) ≡ New_at y w
      go true p =
          back (variable_from 0 (sites r) k) (and_parts (is_read_of y (variable_from 0 (sites r) k)) (is_that_coin k (coin_from 0 (sites r) y)) (and_parts (not (y == r.key)) (is_read_of y (variable_from 0 (sites r) k) && is_that_coin k (coin_from 0 (sites r) y)) p).1).0 p
      go false p = ap (λ b. cond b (Key_at w) (made_by r y w (coin_from 0 (sites r) y))) e ∙ ap (made_by r y w) f ∙ ap (λ b. made_if b y w k) p

  made_again : (w : List ℕ) (k : Coin) (o : Option ℕ) → variable_from 0 (sites r) k ≡ o → at_left r (new_by r w k o) ≡ Made_at k.name w k.site
  made_again w k None f = ap (new_by r w k) f
  made_again w k (Some y) f = go (are_paired r y k) refl
    where
      same_coin : (j : Coin) → is_that_coin k (Some j) ≡ true → j ≡ k
      same_coin j z = let q = and_parts (j.name == k.name) (j.site == k.site) z in λ i. record { name = eqb-true j.name k.name q.0 i; site = eqb-true j.site k.site q.1 i }

      back : (o : Option Coin) → is_that_coin k o ≡ true → are_paired r y k ≡ true → made_by r y w o ≡ Made_at k.name w k.site
      back None z p = absurd (both_ways _ refl z)
      back (Some j) z p = ap (λ v. made_by r y w (Some v)) (same_coin j z) ∙ ap (λ b. made_if b y w k) p

      go : (b : Bool) → are_paired r y k ≡ b → at_left r (new_if b y w k) ≡ Made_at k.name w k.site
      go true p =
          let q = and_parts (not (y == r.key)) (is_read_of y (variable_from 0 (sites r) k) && is_that_coin k (coin_from 0 (sites r) y)) p in
          ap (λ b. cond b (Key_at w) (made_by r y w (coin_from 0 (sites r) y))) (not-true (y == r.key) q.0)
          ∙ back (coin_from 0 (sites r) y) (and_parts (is_read_of y (variable_from 0 (sites r) k)) (is_that_coin k (coin_from 0 (sites r) y)) q.1).1 p
      go false p = ap (new_by r w k) f ∙ ap (λ b. new_if b y w k) p

  pub again : (c : Cell) → at_left r (at_left r c) ≡ c
  again (New_at y w) = go (y == r.key) refl
    where
      go : (b : Bool) → (y == r.key) ≡ b → at_left r (cond b (Key_at w) (made_by r y w (coin_from 0 (sites r) y))) ≡ New_at y w
      go true e = ap (λ z. New_at z w) (sym (eqb-true y r.key e))
      go false e = new_again y w e (coin_from 0 (sites r) y) refl
  again (Key_at w) = ap (λ b. cond b (Key_at w) (made_by r r.key w (coin_from 0 (sites r) r.key))) (eq-eqb r.key r.key refl)
  again (Made_at z w n) = made_again w (record { name = z; site = n }) (variable_from 0 (sites r) (record { name = z; site = n })) refl
  again (Find_at l w) = refl
  again (Test_at w) = refl
  again (Picked_at z w n) = refl
  again (CoinCell n) = refl

  pub one_to_one : (c d : Cell) → at_left r c ≡ at_left r d → c ≡ d
  one_to_one c d e = sym (again c) ∙ ap (at_left r) e ∙ again d

module _ (r : Reduction) (fine : IsAptGame r) (i : Interpretation) (t : Tape) where
  abbrev g : Setting
  g = in_game r i

  abbrev h : Setting
  h = in_context r i

  abbrev K : Memory → Memory → Type 0
  K = Kept r t

  abbrev L : Input → Input → Type 0
  L = Like r fine i t

  abbrev game_tape : Tape
  game_tape c = t (at_left r c)

  told_alike : (m : Mode) → IsTestApt r m → (x y : State) → AreAlike K L x y → (w : List ℕ) → told m game_tape x w ≡ told m t y w
  told_alike Events e x y s w = refl
  told_alike (Real one n) e x y s w = ap₂ (λ b o. cond (one && b) None o) s.tested (s.memory.stores.plain n w e)
  told_alike (Random one n) e x y s w = ap₂ (λ b (o : Option ℕ). cond (one && b) None (cond (is_some o) (Some (t (Test_at w))) None)) s.tested (s.memory.stores.plain n w e)

  input_served : (x y : State) → AreAlike K L x y → (j k : Input) → L j k → (vs : List ℕ) → AllByRecursion (VisitReadsAssigned g) (visits g game_tape j.tree j.place 0 vs (begun x j)) → AreServedAlike K L (serve_input g game_tape x j vs) (serve_input h t y k vs)
  unfolding serve step visits
  input_served x y s j k (copy n rs {b = b} {at = at} f bound w apt) vs d =
      body_served r fine i t b rs n _ _ 0 0 [] [] at _ _ f w apt (record { stores = put_bound r t x.memory.store y.memory.store (tuple at) _ vs bound s.memory.stores; events = s.memory.events }) d.1

  channel : (j k : Input) → L j k → j.channel ≡ k.channel
  channel j k (copy n rs f bound w apt) = refl

  tuples : (j k : Input) → L j k → tuple j.indices ≡ tuple k.indices
  tuples j k (copy n rs f bound w apt) = refl

  message : (j k : Input) → L j k → (vs : List ℕ) → fits g.interpretation.type_size (message_binders j) vs ≡ fits h.interpretation.type_size (message_binders k) vs
  message j k (copy n rs f bound w apt) vs = refl

  simulation : (m : Mode) → IsTestApt r m → IsSimulation K L (VisitReadsAssigned g) g h m m game_tape t
  simulation m e = record {
    channel = channel;
    tuple = tuples;
    message = message;
    told = told_alike m e;
    served = λ x y s j k l vs f d. input_served x y s j k l vs d;
  }

  none_kept : K no_memory no_memory
  none_kept = record {
    stores = record { plain = λ x w e. refl; key = λ w. refl; coins = λ y w v e f. absurd (clash v f) };
    events = refl;
  }
    where
      clash : (v : ℕ) → ◌≡◌ {A = Option ℕ} None (Some v) → ⊥
      clash v e = cc

  coins_agree : (n : ℕ) (ns : List ℕ) → AgreeAt (cells_of (coin_cells n ns)) game_tape t
  coins_agree n [] = tt
  coins_agree n (x ∷ ns) = (refl, coins_agree (suc n) ns)

  games : (a : Adversary) (m : Mode) → IsTestApt r m → IsGameSimulation K L (VisitReadsAssigned g) a g h m m r.scene.game (context r Anywhere [] 0 r.scene.game) game_tape t
  unfolding visits_of_run
  games a m e = record {
    steps = simulation m e;
    memory = none_kept;
    begun = opened r fine i t r.scene.game [] 0 0 0 [] (record { named = tt; found = tt; apart = tt }) fine.formed.phrase fine.apt;
    visited = all_reads_assigned r.scene.declarations g m (a.next (coins_on game_tape 0 a.coins)) game_tape a.moves r.scene.game refl (game_context r.scene.declarations r.scene.game fine.formed);
    coins = coins_agree 0 a.coins;
  }

  same_events : (x y : Memory) → K x y → x.events ≡ y.events
  same_events x y k = k.events

  pub holds_in_context : (x : Experiment) (a : Adversary) → IsTestApt r (mode_of x) → holds_on g x a r.scene.game game_tape ≡ holds_on h x a (context r Anywhere [] 0 r.scene.game) t
  holds_in_context x a e =
      holds_alike K L g h x x a r.scene.game (context r Anywhere [] 0 r.scene.game) game_tape t (experiments_alike K L same_events h no_side x) (games_alike K L (VisitReadsAssigned g) a g h (mode_of x) (mode_of x) r.scene.game (context r Anywhere [] 0 r.scene.game) game_tape t (games a (mode_of x) e))

pub chances_in_context : (r : Reduction) (fine : IsAptGame r) (i : Interpretation) (x : Experiment) (a : Adversary) → IsTestApt r (mode_of x)
    → IsCoveredFor (holds_on (in_context r i) x a (context r Anywhere [] 0 r.scene.game)) (renamed (at_left r) (cells (in_game r i) (mode_of x) a r.scene.game)) (cells (in_context r i) (mode_of x) a (context r Anywhere [] 0 r.scene.game))
    → IsCoveredFor (holds_on (in_context r i) x a (context r Anywhere [] 0 r.scene.game)) (cells (in_context r i) (mode_of x) a (context r Anywhere [] 0 r.scene.game)) (renamed (at_left r) (cells (in_game r i) (mode_of x) a r.scene.game))
    → Same (chance_of (in_game r i) x a r.scene.game) (chance_of (in_context r i) x a (context r Anywhere [] 0 r.scene.game))
chances_in_context r fine i x a e c d =
    equal_under_names (in_game r i) (in_context r i) x x a (at_left r) r.scene.game (context r Anywhere [] 0 r.scene.game) (one_to_one r) (λ t. holds_in_context r fine i t x a e) c d
