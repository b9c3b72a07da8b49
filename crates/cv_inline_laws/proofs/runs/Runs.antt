-- The run of a context with the right side, and that of its next game.
use Rattle.std.proofs.Common.{◌≡◌, ℕ, true, false, cond, ◌&&◌, List, [], ◌∷◌, length, is_some, Option, Some, None, refl, sym, ap, ap₂, subst}
use Rattle.std.specs.List.{AllByRecursion}
use Rattle.cv_syntax_trees.specs.Tree.{Tree}
use Rattle.cv_meaning.specs.Interpretation.{Setting}
use Rattle.cv_meaning.specs.Memory.{no_memory, nowhere, tuple}
use Rattle.cv_meaning.specs.Binders.{fits}
use Rattle.cv_meaning.specs.Inputs.{Input}
use Rattle.cv_meaning.specs.Serving.{serve, visits}
use Rattle.cv_meaning.specs.Runs.{Mode, Events, Real, Random, Adversary, State, begun, serve_input, told}
use Rattle.cv_meaning.specs.Experiments.{Experiment, mode_of, holds_on, run}
use Rattle.cv_meaning.specs.contexts.Sides.{side_from}
use Rattle.cv_meaning_runs.specs.Simulation.{HaveSameEvents, AreServedAlike, AreAlike, IsSimulation}
use Rattle.cv_meaning_runs.proofs.Simulation.{games_alike}
use Rattle.cv_meaning_runs.proofs.Ends.{experiments_alike, holds_alike}
use Rattle.cv_meaning.specs.contexts.Inlined.{Caller}
use Rattle.cv_inline.specs.bodies.Related.{MadeUnder}
use Rattle.cv_inline.specs.NextGame.{callers_of, next_in}
use Rattle.cv_inline_laws.specs.runs.Texts.{is_ordinary, Text, oracles_in, KeyKeeps}
use Rattle.cv_inline_laws.specs.runs.Contexts.{context_setting, AreLikeTapes, IsExpected, AreRelatedMemories, AreLikeInputs, IsAskedAlike, IsTextOf}
use Rattle.cv_inline_laws.proofs.runs.Serve.{serve_next, inputs_next}

same_events : (T : Text) → HaveSameEvents (AreRelatedMemories T)
same_events T x y r = r.events

module _ (T : Text) (tapes : AreLikeTapes T) where
  abbrev g₁ : Setting
  g₁ = context_setting T

  none_made : MadeUnder
  none_made c = None

  none_some : (k : List ℕ) → None ≡ Some k → ⊥
  none_some k e = cc

  vacuous : (ss : List Caller) → AllByRecursion (λ s. (w k : List ℕ) → none_made (record { tuple = w; site = s.number }) ≡ Some k → KeyKeeps T nowhere s w k × (length k ≡ T.key_length)) ss
  unfolding none_made
  vacuous [] = tt
  vacuous (s ∷ ss) = (λ w k e. absurd (none_some k e), vacuous ss)

  begin_related : AreRelatedMemories T no_memory no_memory
  unfolding none_made
  begin_related = record {
    made = none_made;
    stores = record {
      ordinary = λ y w e. refl;
      arrays = λ v k c h. refl;
      unmade = λ c e v h. refl;
      answered = λ c k e. absurd (none_some k e);
      stays = vacuous (callers_of T.calls.callings);
      key_cells = λ w. refl;
      key_values = λ w e. absurd (not_true e);
    };
    events = refl;
  }
    where
      not_true : false ≡ true → ⊥
      not_true e = cc

  told_alike : (m : Mode) → IsAskedAlike T m → (x y : State) → AreAlike (AreRelatedMemories T) (AreLikeInputs T) x y → (w : List ℕ) → told m T.side_tape x w ≡ told m T.game_tape y w
  told_alike Events h x y a w = refl
  told_alike (Real one z) h x y a w = ap₂ (λ b o. cond (one && b) None o) a.tested (a.memory.stores.ordinary z w (ap is_ordinary h))
  told_alike (Random one z) h x y a w =
      ap₂ (λ b o. cond (one && b) None o) a.tested (ap₂ (λ (o : Option ℕ) v. cond (is_some o) (Some v) None) (a.memory.stores.ordinary z w (ap is_ordinary h.0)) (h.1 w))

  served_alike : (x y : State) → AreAlike (AreRelatedMemories T) (AreLikeInputs T) x y → (i j : Input) → AreLikeInputs T i j → (vs : List ℕ) → AllByRecursion (IsExpected T) (visits g₁ T.side_tape i.tree i.place 0 vs (begun x i))
      → AreServedAlike (AreRelatedMemories T) (AreLikeInputs T) (serve_input g₁ T.side_tape x i vs) (serve_input T.g T.game_tape y j vs)
  served_alike x y a i j l vs e =
      subst (λ b. AreServedAlike (AreRelatedMemories T) (AreLikeInputs T) (serve_input g₁ T.side_tape x i vs) (serve T.g T.game_tape b j.place 0 vs (begun y j))) (sym l.tree)
      (subst (λ at. AreServedAlike (AreRelatedMemories T) (AreLikeInputs T) (serve_input g₁ T.side_tape x i vs) (serve T.g T.game_tape (next_in T.calls [] i.tree) j.place 0 vs (record { indices = at; memory = y.memory }))) l.indices
      (subst (λ es. AreServedAlike (AreRelatedMemories T) (AreLikeInputs T) (serve_input g₁ T.side_tape x i vs) (serve T.g T.game_tape (next_in T.calls [] i.tree) j.place 0 vs (record { indices = i.indices; memory = record { store = y.memory.store; events = es; arrays = y.memory.arrays } }))) a.memory.events
      (serve_next T tapes i.tree [] [] l.fine i.place j.place 0 0 vs vs (refl, refl) i.indices x.memory.events x.memory.store x.memory.arrays y.memory.arrays y.memory.store a.memory.made a.memory.stores tt tt e)))

  simulation : (m : Mode) → IsAskedAlike T m → IsSimulation (AreRelatedMemories T) (AreLikeInputs T) (IsExpected T) g₁ T.g m m T.side_tape T.game_tape
  simulation m h = record {
    channel = λ i j l. l.channel;
    tuple = λ i j l. ap tuple l.indices;
    message = λ i j l vs. ap (λ bs. fits T.g.interpretation.type_size bs vs) l.binders;
    told = told_alike m h;
    served = λ x y a i j l vs f e. served_alike x y a i j l vs e;
  }

pub runs_alike : (T : Text) (m : Mode) (a : Adversary) (context : Tree) → IsTextOf T m a context → AreAlike (AreRelatedMemories T) (AreLikeInputs T) (run (context_setting T) m a context T.side_tape) (run T.g m a (next_in T.calls [] context) T.game_tape)
runs_alike T m a context is =
    games_alike (AreRelatedMemories T) (AreLikeInputs T) (IsExpected T) a (context_setting T) T.g m m context (next_in T.calls [] context) T.side_tape T.game_tape
    (record { steps = simulation T is.tapes m is.asked; memory = begin_related T is.tapes; begun = inputs_next T is.tapes context is.fine 0 0 []; visited = is.visited; coins = is.coins })

pub experiments_hold_alike : (T : Text) (x : Experiment) (a : Adversary) (context : Tree) → IsTextOf T (mode_of x) a context → holds_on (context_setting T) x a context T.side_tape ≡ holds_on T.g x a (next_in T.calls [] context) T.game_tape
experiments_hold_alike T x a context is =
    holds_alike (AreRelatedMemories T) (AreLikeInputs T) (context_setting T) T.g x x a context (next_in T.calls [] context) T.side_tape T.game_tape
    (experiments_alike (AreRelatedMemories T) (AreLikeInputs T) (same_events T) T.g (side_from (oracles_in T)) x) (runs_alike T (mode_of x) a context is)
