-- The runs of the two games are alike, so each experiment holds on both tapes or on none.
use Rattle.std.proofs.Common.{◌≡◌, ℕ, suc, ◌==◌, ◌&&◌, Bool, true, false, cond, List, [], ◌∷◌, Option, Some, None, is_some, refl, ap, ap₂, ◌∙◌}
use Rattle.std.specs.List.{AllByRecursion}
use Rattle.cv_syntax_trees.specs.Tree.{Tree}
use Rattle.cv_meaning.specs.Cells.{coin_cells}
use Rattle.cv_meaning.specs.Experiments.{Experiment, holds_on, mode_of, visits_of_run}
use Rattle.cv_meaning.specs.Inputs.{Input}
use Rattle.cv_meaning.specs.Interpretation.{Setting}
use Rattle.cv_meaning.specs.Memory.{Memory, Store, tuple}
use Rattle.cv_meaning.specs.Runs.{Adversary, Events, Mode, Random, Real, State, told}
use Rattle.cv_meaning.specs.Tapes.{Coin, Tape, Test_at, cells_of}
use Rattle.cv_meaning_chances.proofs.alignment.Aligned.{simulates}
use Rattle.cv_meaning_chances.specs.alignment.Alignment.{AreBegun}
use Rattle.cv_meaning_runs.proofs.Ends.{experiments_alike, holds_alike}
use Rattle.cv_meaning_runs.proofs.Simulation.{games_alike}
use Rattle.cv_meaning_runs.specs.Agreement.{AgreeAt}
use Rattle.cv_meaning_runs.specs.Listed.{has_no_calls}
use Rattle.cv_meaning_runs.specs.Simulation.{AreAlike, IsGameSimulation}
use Rattle.cv_scope_rules.specs.Context.{nothing_known}
use Rattle.cv_scope_rules.specs.Phrases.{Inputs}
use Rattle.cv_scope_runs.proofs.Games.{Game}
use Rattle.cv_scope_runs.proofs.Standing.{root}
use Rattle.cv_edit_names.specs.Naming.{Naming}
use Rattle.cv_edit_names.specs.Splitting.{nothing_around, split_in}
use Rattle.cv_rule_array_names.proofs.Aligned.{AreLikeMemories, AreTapes, Expected, Go, Like, services_aligned, together}
use Rattle.cv_rule_array_names.proofs.Finds.{IsSplitting}
use Rattle.cv_rule_array_names.proofs.Points.{opened_alike}
use Rattle.cv_rule_array_names.proofs.Stores.{is_name}
use Rattle.cv_rule_array_names.proofs.Values.{Unread}

-- the adversary tests none of these variables
abbrev pub IsOther : ℕ → List ℕ → Mode → Type 0
IsOther x ys Events = Unit {0}
IsOther x ys (Real one z) = ((z == x) ≡ false) × (is_name ys z ≡ false)
IsOther x ys (Random one z) = ((z == x) ≡ false) × (is_name ys z ≡ false)

module _ (g : Setting) (variable : ℕ → Bool) (game : Tree) (fine : Game g variable game) (plain : has_no_calls game ≡ true) (n : Naming) (p : IsSplitting game n) (o : List ℕ → ℕ) (owns : (w : List ℕ) → is_name n.names (o w) ≡ true) (end : Store)
    (t u : Tape) (tapes : AreTapes n.variable n.names o t u) where
  abbrev K : Memory → Memory → Type 0
  K = AreLikeMemories g variable game fine plain n p o owns end t u tapes

  abbrev L : Input → Input → Type 0
  L = Like g variable game fine plain n p o owns end t u tapes

  abbrev next : Tree
  next = split_in n nothing_around 0 game

  told_alike : (m : Mode) → IsOther n.variable n.names m → (a b : State) → AreAlike K L a b → (w : List ℕ) → told m t a w ≡ told m u b w
  told_alike Events e a b s w = refl
  told_alike (Real one z) e a b s w = ap₂ (λ (c : Bool) (v : Option ℕ). cond (one && c) None v) s.tested (s.memory.store.same z e.0 e.1 w)
  told_alike (Random one z) e a b s w =
      ap₂ (λ (c : Bool) (v : Option ℕ). cond (one && c) None (cond (is_some v) (Some (t (Test_at w))) None)) s.tested (s.memory.store.same z e.0 e.1 w)
      ∙ ap (λ v. cond (one && b.tested) None (cond (is_some (b.memory.store z w)) (Some v) None)) (tapes.others (Test_at w) refl)

  begun_alike : (m : Mode) → IsOther n.variable n.names m → AreBegun K L (Go g variable game fine plain n p o owns end t u tapes) g g m m t u
  begun_alike m e = record {
    channel = λ i j l. l.channel;
    tuple = λ i j l. ap tuple l.indices;
    message = λ i j l vs. l.message vs;
    told = told_alike m e;
    served = λ a b k i j l vs f. together (record { phrase = Inputs; body = refl; above = l.above; stands = l.stands; around = l.around; known_names = l.names; tree = l.tree; unread = l.unread; number = refl; bound = refl; indices = l.indices; memory = k });
  }

  coins_alike : (k : ℕ) (ns : List ℕ) → AgreeAt (cells_of (coin_cells k ns)) t u
  coins_alike k [] = tt
  coins_alike k (c ∷ ns) = (tapes.others (Coin k) refl, coins_alike (suc k) ns)

  simulation : (a : Adversary) (m : Mode) → IsOther n.variable n.names m → Unread n.variable next → AllByRecursion (Expected g variable game fine plain n p o owns end t u tapes) (visits_of_run g m a game t) → IsGameSimulation K L (Expected g variable game fine plain n p o owns end t u tapes) a g g m m game next t u
  simulation a m e unread visited = record {
    steps = simulates K L (Go g variable game fine plain n p o owns end t u tapes) (Expected g variable game fine plain n p o owns end t u tapes) g g t u (services_aligned g variable game fine plain n p o owns end t u tapes) m m (begun_alike m e);
    memory = record { store = record { same = λ z h f w. refl; owned = λ w. refl; others = λ y h w f. refl }; events = refl; arrays = refl };
    begun = opened_alike g variable game fine n p o end game 0 0 nothing_known [] [] nothing_around root (record { named = tt; found = tt; apart = tt }) (record { cells = tt; own = tt; facts = tt; events = tt })
        (record { replications = refl; looked_for = tt; defined = tt }) unread;
    visited = visited;
    coins = coins_alike 0 a.coins;
  }

  pub holds_split : (e : Experiment) (a : Adversary) → IsOther n.variable n.names (mode_of e) → Unread n.variable next → AllByRecursion (Expected g variable game fine plain n p o owns end t u tapes) (visits_of_run g (mode_of e) a game t) → holds_on g e a game t ≡ holds_on g e a next u
  holds_split e a other unread visited =
      holds_alike K L g g e e a game next t u (experiments_alike K L (λ r s l. l.events) g g.side e)
      (games_alike K L (Expected g variable game fine plain n p o owns end t u tapes) a g g (mode_of e) (mode_of e) game next t u (simulation a (mode_of e) other unread visited))
