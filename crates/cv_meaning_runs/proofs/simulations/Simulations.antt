-- A simulation that expects something of visits alone is one of moments.
use Rattle.std.proofs.Common.{List, [], ◌∷◌, subst, sym}
use Rattle.std.specs.List.{AllByRecursion}
use Rattle.cv_syntax_trees.specs.Tree.{Tree}
use Rattle.cv_meaning.specs.Tapes.{Tape}
use Rattle.cv_meaning.specs.Interpretation.{Setting}
use Rattle.cv_meaning.specs.Memory.{Memory}
use Rattle.cv_meaning.specs.Inputs.{Input}
use Rattle.cv_meaning.specs.Serving.{Visit}
use Rattle.cv_meaning.specs.Runs.{Mode, Adversary}
use Rattle.cv_meaning_runs.specs.Moments.{Moment, Visited, Tested, visits_among, moments_of_run}
use Rattle.cv_meaning_runs.specs.Simulation.{IsSimulation, IsGameSimulation}
use Rattle.cv_meaning_runs.proofs.Together.{visits_among_moments}
use Rattle.cv_meaning_runs.specs.simulations.Moments.{OfVisits, IsMomentSimulation, IsMomentGameSimulation}

expected_moments : (V : Visit → Type 0) (xs : List Moment) → AllByRecursion V (visits_among xs) → AllByRecursion (OfVisits V) xs
expected_moments V [] e = tt
expected_moments V (Visited v ∷ xs) e = (e.0, expected_moments V xs e.1)
expected_moments V (Tested w x ∷ xs) e = (tt, expected_moments V xs e)

pub steps_of_moments :
    (K : Memory → Memory → Type 0) (L : Input → Input → Type 0) (V : Visit → Type 0) (g h : Setting) (m n : Mode) (t u : Tape) → IsSimulation K L V g h m n t u → IsMomentSimulation K L (OfVisits V) g h m n t u
steps_of_moments K L V g h m n t u sim = record {
  channel = sim.channel;
  tuple = sim.tuple;
  message = sim.message;
  told = λ x y s w e. sim.told x y s w;
  served = sim.served;
}

pub games_of_moments :
    (K : Memory → Memory → Type 0) (L : Input → Input → Type 0) (V : Visit → Type 0) (a : Adversary) (g h : Setting) (m n : Mode) (x y : Tree) (t u : Tape)
    → IsGameSimulation K L V a g h m n x y t u → IsMomentGameSimulation K L (OfVisits V) a g h m n x y t u
games_of_moments K L V a g h m n x y t u s = record {
  steps = steps_of_moments K L V g h m n t u s.steps;
  memory = s.memory;
  begun = s.begun;
  moments = expected_moments V (moments_of_run g m a x t) (subst (AllByRecursion V) (sym (visits_among_moments g m a x t)) s.visited);
  coins = s.coins;
}
